use Rattle.std.proofs.Common.{ℕ, ◌≡◌, ◌<◌, get_or, length, Bor}
use Rattle.dp_policy.specs.declared.tree.PTree.{PTree}
use Rattle.dp_policy.specs.TreeValue.{policy_tree}
use Rattle.dp_policy.specs.Trees.{joint_policy, tree_of}
use Rattle.dp_value.proofs.joint_trees.trees_of.Given as goal

abbrev pub invariant-loop-agent : goal.invariant-loop-agent
invariant-loop-agent l = record {
  all : length l.trees ≡ 6;
  are : (i : ℕ) → i < l.agent → (d : Bor PTree)
      → policy_tree (get_or l.trees i d).now ≡ tree_of (joint_policy l.policy) i;
}
