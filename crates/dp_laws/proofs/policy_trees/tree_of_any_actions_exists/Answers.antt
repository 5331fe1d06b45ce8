use Rattle.dp_laws.proofs.TreeActions.{tree_of_actions}
use Rattle.dp_laws.proofs.policy_trees.tree_of_any_actions_exists.Goals as goal

pub returns : goal.returns
returns c = tree_of_actions
