use Rattle.std.proofs.Common.{◌≡◌, ◌*◌, ◌<◌, ℕ}
use Rattle.dp_cluster.specs.OwnWeights.{low_at}
use Rattle.dp_cluster.proofs.runs.first_apart.Given as goal

abbrev pub invariant-loop-at : goal.invariant-loop-at
invariant-loop-at l = (j : ℕ) → j < l.at → low_at l.one j * l.totals.second ≡ low_at l.other j * l.totals.first
