use Rattle.dp_laws.proofs.ScaledWeights.{look_ahead_of_scaled}
use Rattle.dp_laws.proofs.look_ahead.look_ahead_scales.Goals as goal

pub returns : goal.returns
returns c = look_ahead_of_scaled
