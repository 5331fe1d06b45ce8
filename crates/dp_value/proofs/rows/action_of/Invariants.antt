use Rattle.std.proofs.Common.{drop}
use Rattle.dp_spec.specs.SharedWorth.{joint_row_action}
use Rattle.dp_value.proofs.JointRows.{IsActing}
use Rattle.dp_value.proofs.rows.action_of.Given as goal

abbrev pub invariant-loop-agent : goal.invariant-loop-agent
invariant-loop-agent l = IsActing (drop l.agent l.policy.rows) (drop l.agent l.model.model.actions)
    l.stage l.left l.rest l.action (joint_row_action l.model.model l.policy.rows l.stage l.row)
