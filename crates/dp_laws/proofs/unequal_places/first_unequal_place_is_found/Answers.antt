use Rattle.dp_laws.proofs.UnequalPlaces.{first_unequal_is, none_unequal_is}
use Rattle.dp_laws.proofs.unequal_places.first_unequal_place_is_found.Goals as goal

pub returns-clause-found : goal.returns-clause-found
returns-clause-found c = first_unequal_is

pub returns-clause-none : goal.returns-clause-none
returns-clause-none c = none_unequal_is
