use Rattle.std.proofs.Common.{ℕ, ◌≡◌, ◌<◌, false}
use Rattle.dp_spec.specs.Quantities.{weights_after_in}
use Rattle.dp_spec.specs.Zeros.{nothing}
use Rattle.dp_value.specs.WeightUpdates.{weights_of}
use Rattle.dp_value.proofs.tree_worth.update_all.Given as goal

abbrev pub invariant-loop-state : goal.invariant-loop-state
invariant-loop-state g l = record {
  weights : (s : ℕ) → s < l.state → weights_of l.later s
      ≡ weights_after_in (g.A.Arith.operations l.arith) l.model.model (weights_of l.weights) l.action l.seen s;
  none : l.some ≡ false → (s : ℕ) → s < l.state → weights_of l.later s ≡ nothing;
}
