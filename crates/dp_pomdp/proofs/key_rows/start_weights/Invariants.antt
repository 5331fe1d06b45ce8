use Rattle.std.proofs.Common.{◌≡◌, map}
use Rattle.std.specs.List.{range_with_len}
use Rattle.dp_pomdp.specs.Keys.{start_weights}
use Rattle.dp_pomdp.proofs.key_rows.start_weights.Given as goal

abbrev pub invariant-loop-state : goal.invariant-loop-state
invariant-loop-state g l = l.weights.items ≡ map (start_weights (g.A.Arith.operations l.arith) l.model.model)
    (range_with_len 0 l.state)
