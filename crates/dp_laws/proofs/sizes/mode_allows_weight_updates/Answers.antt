use Rattle.dp_laws.proofs.SizeLaws.{mode_can_update_weights}
use Rattle.dp_laws.proofs.sizes.mode_allows_weight_updates.Goals as goal

pub returns : goal.returns
returns c = mode_can_update_weights
