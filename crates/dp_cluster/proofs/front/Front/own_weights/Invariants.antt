use Rattle.std.proofs.Common.{◌≡◌, ◌*◌, map}
use Rattle.std.specs.List.{range_with_len}
use Rattle.dp_cluster.specs.OwnWeights.{own_low}
use Rattle.dp_cluster.proofs.front.Front.own_weights.Given as goal

abbrev pub invariant-loop-row : goal.invariant-loop-row
invariant-loop-row l =
    l.weights.items
    ≡ map (own_low l.self.weights l.places.classes l.places.width l.class)
    (range_with_len 0 (l.row * l.places.width))
