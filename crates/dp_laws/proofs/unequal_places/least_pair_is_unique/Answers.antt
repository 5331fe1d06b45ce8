use Rattle.dp_laws.proofs.UnequalPlaces.{least_pair_unique, no_pair_is}
use Rattle.dp_laws.proofs.unequal_places.least_pair_is_unique.Goals as goal

pub returns-clause-unique : goal.returns-clause-unique
returns-clause-unique c = least_pair_unique

pub returns-clause-none : goal.returns-clause-none
returns-clause-none c = no_pair_is
