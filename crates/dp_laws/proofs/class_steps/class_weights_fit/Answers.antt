use Rattle.dp_laws.proofs.PlaceWeights.{class_fits}
use Rattle.dp_laws.proofs.class_steps.class_weights_fit.Goals as goal

pub returns : goal.returns
returns c = class_fits
