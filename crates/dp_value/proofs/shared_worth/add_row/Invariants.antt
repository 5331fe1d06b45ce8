use Rattle.std.proofs.Common.{◌≡◌, ℕ, suc, ◌<◌}
use Rattle.dp_spec.specs.Arithmetic.{span_add}
use Rattle.dp_spec.specs.Quantities.{span_sum}
use Rattle.dp_spec.specs.SharedWorth.{joint_row_count}
use Rattle.dp_value.specs.RowWeights.{row_gives, row_part, weight_in}
use Rattle.dp_value.proofs.shared_worth.add_row.Given as goal

abbrev pub invariant-loop-seen : goal.invariant-loop-seen
invariant-loop-seen g l =
    (j s : ℕ) → j < joint_row_count l.policy.rows (suc l.stage) → s < l.model.model.states
    → weight_in l.model.model.states l.next j s
    ≡ span_add (span_sum l.row (row_gives (g.A.Arith.operations l.arith)
    l.model.model l.policy.rows l.stage j s))
    (span_sum l.seen (row_part (g.A.Arith.operations l.arith) l.model.model l.policy.rows l.stage j s l.row))
