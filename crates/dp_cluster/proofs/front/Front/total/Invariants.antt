use Rattle.std.proofs.Common.{◌≡◌, ◌*◌}
use Rattle.dp_cluster.specs.OwnWeights.{own_total}
use Rattle.dp_cluster.proofs.front.Front.total.Given as goal

abbrev pub invariant-loop-row : goal.invariant-loop-row
invariant-loop-row l = l.total ≡ own_total l.self.weights l.places.classes l.places.width
    (l.row * l.places.width)
    l.class
