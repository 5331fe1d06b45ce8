use Rattle.std.proofs.Common.{◌≡◌}
use Rattle.dp_base.specs.Sums.{nat_sum}
use Rattle.dp_cluster.specs.OwnWeights.{low_at}
use Rattle.dp_cluster.proofs.runs.run_total.Given as goal

abbrev pub invariant-loop-weight : goal.invariant-loop-weight
invariant-loop-weight l = l.total ≡ nat_sum l.weight-index (low_at l.run)
