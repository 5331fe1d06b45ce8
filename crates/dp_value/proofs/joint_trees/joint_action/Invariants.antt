use Rattle.std.proofs.Common.{ℕ, ◌≡◌, ◌<◌, get_or, length}
use Rattle.dp_spec.specs.PolicyTree.{root_action}
use Rattle.dp_policy.specs.Trees.{tree_of}
use Rattle.dp_value.specs.JointTrees.{first_trees}
use Rattle.dp_value.proofs.joint_trees.joint_action.Given as goal

abbrev pub invariant-loop-agent : goal.invariant-loop-agent
invariant-loop-agent l = record {
  all : length l.actions ≡ 6;
  are : (i : ℕ) → i < l.agent → get_or l.actions i 0 ≡ root_action
      (tree_of (first_trees (length l.model.model.actions) l.trees) i);
}
