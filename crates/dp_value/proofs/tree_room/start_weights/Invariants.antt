use Rattle.std.proofs.Common.{ℕ, ◌≡◌, ◌<◌}
use Rattle.dp_spec.specs.Model.{start_at}
use Rattle.dp_value.specs.WeightUpdates.{weights_of}
use Rattle.dp_value.proofs.tree_room.start_weights.Given as goal

abbrev pub invariant-loop-state : goal.invariant-loop-state
invariant-loop-state g l = (s : ℕ) → s < l.state
    → weights_of l.weights s ≡ (g.A.Arith.operations l.arith).start (start_at l.model.model s)
