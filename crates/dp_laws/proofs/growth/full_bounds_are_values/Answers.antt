use Rattle.dp_laws.proofs.FullBounds.{full_bound_is_value}
use Rattle.dp_laws.proofs.growth.full_bounds_are_values.Goals as goal

pub returns : goal.returns
returns c = full_bound_is_value
