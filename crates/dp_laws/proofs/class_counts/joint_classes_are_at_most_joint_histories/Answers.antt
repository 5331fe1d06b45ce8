use Rattle.dp_laws.proofs.ClassCounts.{joint_classes_within_histories}
use Rattle.dp_laws.proofs.class_counts.joint_classes_are_at_most_joint_histories.Goals as goal

pub returns : goal.returns
returns c = joint_classes_within_histories
