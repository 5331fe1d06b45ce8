use Rattle.std.proofs.Common.{◌≡◌, ◌*◌, drop}
use Rattle.dp_spec.specs.JointNumbers.{product}
use Rattle.dp_spec.specs.SharedPolicy.{row_counts}
use Rattle.dp_value.proofs.rows.joint_rows.Given as goal

abbrev pub invariant-loop-agent : goal.invariant-loop-agent
invariant-loop-agent l = l.count * product (drop l.agent (row_counts l.policy.rows l.stage))
    ≡ product (row_counts l.policy.rows l.stage)
