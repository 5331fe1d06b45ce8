use Rattle.std.proofs.Common.{◌≡◌, drop}
use Rattle.std.specs.Prelude.{max}
use Rattle.std.specs.List.{fold}
use Rattle.dp_meaning.specs.Scales.{most_digits}
use Rattle.dp_tables.proofs.statements.digits_in_numbers.Given as goal

abbrev pub invariant-loop-number : goal.invariant-loop-number
invariant-loop-number l =
    fold (λ most d. max most d.digits) l.most (drop l.number-index l.numbers) ≡ most_digits l.numbers
