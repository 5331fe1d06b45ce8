-- What a reading function answers.
use Rattle.std.specs.Prelude.{◌≡◌, Result, Ok, Err}
use Rattle.dp_meaning.specs.declared.why.Fault.{Fault}
use Rattle.dp_text.specs.declared.fault.TextFault.{TextFault}
use Rattle.dp_text.specs.declared.fault.TextFault.TheVariants.{At, Memory}

-- it answers what is meant, the value or the fault, unless memory ran out
abbrev pub Reads : {A : Type 0} → Result A Fault → Result A TextFault → Type 0
Reads meant (Ok x) = meant ≡ Ok x
Reads meant (Err (At fault)) = meant ≡ Err fault
Reads meant (Err Memory) = Unit {0}
