use Rattle.std.proofs.Common.{drop}
use Rattle.dp_spec.specs.JointNumbers.{parts_of}
use Rattle.dp_spec.specs.SharedWorth.{next_joint_row}
use Rattle.dp_value.proofs.JointRows.{IsFollowing}
use Rattle.dp_value.proofs.rows.next_of.Given as goal

abbrev pub invariant-loop-agent : goal.invariant-loop-agent
invariant-loop-agent l = IsFollowing (drop l.agent l.policy.rows)
    (drop l.agent (parts_of l.model.model.observations l.seen)) l.stage l.left l.rest l.next
    (next_joint_row l.model.model l.policy.rows l.stage l.row l.seen)
