use Rattle.dp_laws.proofs.WellFormedSteps.{advanced_is_front}
use Rattle.dp_laws.proofs.front_steps.advancing_keeps_well_formed.Goals as goal

pub returns : goal.returns
returns c = advanced_is_front
