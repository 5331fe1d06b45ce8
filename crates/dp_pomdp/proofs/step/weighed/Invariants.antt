use Rattle.std.proofs.Common.{◌≡◌}
use Rattle.dp_base.specs.Sums.{int_sum}
use Rattle.dp_pomdp.specs.Looking.{weighed_part}
use Rattle.dp_pomdp.proofs.step.weighed.Given as goal

abbrev pub invariant-loop-state : goal.invariant-loop-state
invariant-loop-state l = l.total ≡ int_sum l.state (weighed_part l.rewards l.weights)
