use Rattle.dp_laws.proofs.SizeLaws.{mode_can_evaluate}
use Rattle.dp_laws.proofs.sizes.mode_allows_worth.Goals as goal

pub returns : goal.returns
returns c = mode_can_evaluate
