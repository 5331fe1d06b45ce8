use Rattle.dp_laws.proofs.TrueFits.{room_is_within, version_one_has_room}
use Rattle.dp_laws.proofs.true_fits.room_is_within_limits.Goals as goal

pub returns-clause-limits : goal.returns-clause-limits
returns-clause-limits c = room_is_within

pub returns-clause-version_one : goal.returns-clause-version_one
returns-clause-version_one c = version_one_has_room
