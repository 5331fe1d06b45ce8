use Rattle.dp_laws.proofs.ScaledWeights.{action_look_ahead_of_scaled}
use Rattle.dp_laws.proofs.look_ahead.action_look_ahead_scales.Goals as goal

pub returns : goal.returns
returns c = action_look_ahead_of_scaled
