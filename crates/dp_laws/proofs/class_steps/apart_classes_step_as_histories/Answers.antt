use Rattle.dp_laws.proofs.LoneHistories.{lone_steps}
use Rattle.dp_laws.proofs.class_steps.apart_classes_step_as_histories.Goals as goal

pub returns : goal.returns
returns c = lone_steps
