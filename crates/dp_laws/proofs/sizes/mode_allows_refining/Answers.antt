use Rattle.dp_laws.proofs.SizeLaws.{mode_can_refine}
use Rattle.dp_laws.proofs.sizes.mode_allows_refining.Goals as goal

pub returns : goal.returns
returns c = mode_can_refine
