use Rattle.dp_laws.proofs.NodeFronts.{nodes_have_room}
use Rattle.dp_laws.proofs.rooms.nodes_have_room.Goals as goal

pub returns : goal.returns
returns c = nodes_have_room
