use Rattle.dp_laws.proofs.RightNodes.{fitting_is_right_nodes}
use Rattle.dp_laws.proofs.reasons.fitting_trees_have_right_nodes.Goals as goal

pub returns : goal.returns
returns c = fitting_is_right_nodes
