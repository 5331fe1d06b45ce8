use Rattle.std.proofs.Common.{◌≡◌}
use Rattle.dp_spec.specs.Quantities.{span_sum}
use Rattle.dp_value.proofs.RowUpdates.{rows_reward}
use Rattle.dp_value.proofs.shared_worth.earned.Given as goal

abbrev pub invariant-loop-row : goal.invariant-loop-row
invariant-loop-row g l = l.total ≡ span_sum l.row (rows_reward (g.A.Arith.operations l.arith)
    l.model.model l.policy.rows l.stage l.rest)
