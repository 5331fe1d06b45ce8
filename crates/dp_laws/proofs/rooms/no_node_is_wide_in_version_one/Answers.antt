use Rattle.dp_laws.proofs.NodeFronts.{no_wide_node_in_one}
use Rattle.dp_laws.proofs.rooms.no_node_is_wide_in_version_one.Goals as goal

pub returns : goal.returns
returns c = no_wide_node_in_one
