use Rattle.dp_laws.proofs.PlaceWeights.{total_fits}
use Rattle.dp_laws.proofs.class_steps.class_totals_fit.Goals as goal

pub returns : goal.returns
returns c = total_fits
