use Rattle.std.proofs.Common.{◌≡◌, drop, max}
use Rattle.dp_spec.specs.Mode.{greatest_magnitude}
use Rattle.dp_model.proofs.model.greatest_magnitude.Given as goal

abbrev pub invariant-loop-number : goal.invariant-loop-number
invariant-loop-number l = max l.greatest (greatest_magnitude (drop l.number-index l.numbers))
    ≡ greatest_magnitude l.numbers
