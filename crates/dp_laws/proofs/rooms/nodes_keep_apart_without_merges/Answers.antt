use Rattle.dp_laws.proofs.NodeFronts.{nodes_keep_apart}
use Rattle.dp_laws.proofs.rooms.nodes_keep_apart_without_merges.Goals as goal

pub returns : goal.returns
returns c = nodes_keep_apart
