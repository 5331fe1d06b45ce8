use Rattle.dp_laws.proofs.ClassSteps.{mode_steps}
use Rattle.dp_laws.proofs.class_steps.classes_step_as_histories.Goals as goal

pub returns : goal.returns
returns c = mode_steps
