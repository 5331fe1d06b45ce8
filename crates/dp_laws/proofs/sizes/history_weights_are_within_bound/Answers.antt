use Rattle.dp_laws.proofs.SizeLaws.{mode_history_weights}
use Rattle.dp_laws.proofs.sizes.history_weights_are_within_bound.Goals as goal

pub returns : goal.returns
returns c = mode_history_weights
