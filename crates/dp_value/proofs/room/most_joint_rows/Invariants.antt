use Rattle.std.proofs.Common.{ℕ, ◌*◌, ◌^◌, ◌<◌, ◌≤◌}
use Rattle.dp_spec.specs.SharedWorth.{joint_row_count}
use Rattle.dp_value.proofs.room.most_joint_rows.Given as goal

abbrev pub invariant-loop-stage : goal.invariant-loop-stage
invariant-loop-stage l = record {
  most : (t : ℕ) → t < l.stage → joint_row_count l.policy.rows t ≤ l.most;
  limit : l.model.model.states * l.most ≤ 2 ^ 22;
}
