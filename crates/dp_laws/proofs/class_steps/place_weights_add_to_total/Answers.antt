use Rattle.dp_laws.proofs.PlaceWeights.{places_total}
use Rattle.dp_laws.proofs.class_steps.place_weights_add_to_total.Goals as goal

pub returns : goal.returns
returns c = places_total
