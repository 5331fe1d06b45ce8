use Rattle.dp_laws.proofs.FrontRoom.{widens_is}
use Rattle.dp_laws.proofs.rooms.widening_is_want_of_room.Goals as goal

pub returns : goal.returns
returns c = widens_is
