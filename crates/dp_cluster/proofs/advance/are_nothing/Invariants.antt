use Rattle.std.proofs.Common.{◌≡◌, ◌<◌, ℕ}
use Rattle.dp_spec.specs.Zeros.{nothing}
use Rattle.dp_value.specs.WeightUpdates.{weights_of}
use Rattle.dp_cluster.proofs.advance.are_nothing.Given as goal

abbrev pub invariant-loop-weight : goal.invariant-loop-weight
invariant-loop-weight l = (s : ℕ) → s < l.weight-index → weights_of l.weights s ≡ nothing
