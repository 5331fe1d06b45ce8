use Rattle.std.proofs.Common.{◌≡◌, ◌*◌, ◌+◌, ◌-◌, ◌++◌, map}
use Rattle.std.specs.List.{range_with_len}
use Rattle.dp_cluster.specs.Joins.{merged_at}
use Rattle.dp_cluster.proofs.join.push_row.Given as goal

abbrev pub invariant-loop-class : goal.invariant-loop-class
invariant-loop-class l = l.weights.items ≡ l.fn.weights.items ++ map (λ j. merged_at l.front l.agent l.first l.second
    (l.row * ((l.places.classes - 1) * l.places.width) + j)) (range_with_len 0 (l.class * l.places.width))
