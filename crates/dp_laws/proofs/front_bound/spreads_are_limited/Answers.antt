use Rattle.dp_laws.proofs.Spreads.{spread_to}
use Rattle.dp_laws.proofs.front_bound.spreads_are_limited.Goals as goal

pub returns : goal.returns
returns c = spread_to
