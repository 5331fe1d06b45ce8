use Rattle.std.proofs.Common.{◌≡◌, ℕ, ◌<◌, pos}
use Rattle.std.specs.Prelude.{slice_index_or}
use Rattle.dp_spec.specs.Arithmetic.{point}
use Rattle.dp_spec.specs.Model.{start_at}
use Rattle.dp_value.proofs.shared_worth.start_weights.Given as goal

abbrev pub invariant-loop-state : goal.invariant-loop-state
invariant-loop-state g l = (s : ℕ) → s < l.state → slice_index_or l.now s (point (pos 0))
    ≡ (g.A.Arith.operations l.arith).start (start_at l.model.model s)
