use Rattle.dp_laws.proofs.ModeRowSizes.{mode_can_share}
use Rattle.dp_laws.proofs.sizes.mode_allows_shared_worth.Goals as goal

pub returns : goal.returns
returns c = mode_can_share
