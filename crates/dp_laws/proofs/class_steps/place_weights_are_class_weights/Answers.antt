use Rattle.dp_laws.proofs.PlaceWeights.{place_weight_in}
use Rattle.dp_laws.proofs.class_steps.place_weights_are_class_weights.Goals as goal

pub returns : goal.returns
returns c = place_weight_in
