-- What a reading function answers, by an equation of what is meant.
use Rattle.std.proofs.Common.{◌≡◌, Result, sym, subst}
use Rattle.dp_meaning.specs.declared.why.Fault.{Fault}
use Rattle.dp_text.specs.Reading.{Reads}
use Rattle.dp_text.specs.declared.fault.TextFault.{TextFault}

pub reads_same : {A : Type 0} {meant other : Result A Fault} (result : Result A TextFault) → meant ≡ other
    → Reads other result
    → Reads meant result
reads_same {A} {meant} {other} result e h = let P : Result A Fault → Type 0 = λ x. Reads x result in subst P (sym e) h
