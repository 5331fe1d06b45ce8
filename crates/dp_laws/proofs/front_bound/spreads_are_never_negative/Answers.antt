use Rattle.dp_laws.proofs.Spreads.{spread_from}
use Rattle.dp_laws.proofs.front_bound.spreads_are_never_negative.Goals as goal

pub returns : goal.returns
returns c = spread_from
