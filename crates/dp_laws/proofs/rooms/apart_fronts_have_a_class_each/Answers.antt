use Rattle.dp_laws.proofs.FrontRoom.{apart_classes}
use Rattle.dp_laws.proofs.rooms.apart_fronts_have_a_class_each.Goals as goal

pub returns : goal.returns
returns c = apart_classes
