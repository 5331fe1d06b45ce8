use Rattle.std.proofs.Common.{◌*◌, ◌<◌, ℕ}
use Rattle.dp_cluster.specs.OwnWeights.{AreInProportion}
use Rattle.dp_cluster.proofs.front.Front.first_difference.Given as goal

abbrev pub invariant-loop-row : goal.invariant-loop-row
invariant-loop-row l =
    (p : ℕ) → p < l.row * l.places.width
    → AreInProportion l.self.weights l.places.classes l.places.width (l.places.rows * l.places.width)
    l.first l.second p
