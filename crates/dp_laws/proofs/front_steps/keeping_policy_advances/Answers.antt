use Rattle.dp_laws.proofs.KeptSteps.{keeps_advanced}
use Rattle.dp_laws.proofs.front_steps.keeping_policy_advances.Goals as goal

pub returns : goal.returns
returns c = keeps_advanced
