use Rattle.std.proofs.Common.{◌≡◌}
use Rattle.dp_base.specs.Sums.{int_sum}
use Rattle.dp_value.specs.WeightUpdates.{weights_of}
use Rattle.dp_search.proofs.front_places.upper_sum.Given as goal

abbrev pub invariant-loop-weight : goal.invariant-loop-weight
invariant-loop-weight l = l.total ≡ int_sum l.weight-index (λ s. (weights_of l.weights s).high)
