use Rattle.dp_laws.proofs.LoneHistories.{some_member}
use Rattle.dp_laws.proofs.class_steps.joint_classes_hold_histories.Goals as goal

pub returns : goal.returns
returns c = some_member
