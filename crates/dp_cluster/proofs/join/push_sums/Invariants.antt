use Rattle.std.proofs.Common.{◌≡◌, ◌++◌, map}
use Rattle.std.specs.List.{range_with_len}
use Rattle.dp_spec.specs.Arithmetic.{span_add}
use Rattle.dp_value.specs.WeightUpdates.{weights_of}
use Rattle.dp_cluster.proofs.join.push_sums.Given as goal

abbrev pub invariant-loop-at : goal.invariant-loop-at
invariant-loop-at l = l.weights.items ≡ l.fn.weights.items
    ++ map (λ j. span_add (weights_of l.one j) (weights_of l.other j)) (range_with_len 0 l.at)
