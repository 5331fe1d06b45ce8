use Rattle.dp_laws.proofs.Spreads.{chosen_front_bound_le}
use Rattle.dp_laws.proofs.front_bound.choosing_never_raises_computed_bound.Goals as goal

pub returns : goal.returns
returns c = chosen_front_bound_le
