use Rattle.std.proofs.Common.{◌≡◌, ◌++◌, map}
use Rattle.std.specs.List.{range_with_len}
use Rattle.dp_cluster.specs.OwnWeights.{low_end}
use Rattle.dp_cluster.proofs.runs.push_run.Given as goal

abbrev pub invariant-loop-weight : goal.invariant-loop-weight
invariant-loop-weight l =
    l.weights.items ≡ l.initial.weights.items ++ map (low_end l.run) (range_with_len 0 l.weight-index)
