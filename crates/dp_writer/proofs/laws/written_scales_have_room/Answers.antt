use Rattle.dp_writer.proofs.ReadScales.{scales_have_room}
use Rattle.dp_writer.proofs.laws.written_scales_have_room.Goals as goal

pub returns : goal.returns
returns c = scales_have_room
