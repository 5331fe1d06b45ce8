-- The policy tree that a `PTree` holds. (Own.)
use Rattle.std.specs.Prelude.{List, [], ◌∷◌}
use Rattle.dp_spec.specs.PolicyTree.{PolicyTree, PolicyTrees, node, no_trees, more_trees}
use Rattle.dp_policy.specs.declared.tree.PTree.{PTree}
use Rattle.dp_policy.specs.declared.tree.PTree.TheOpen.{PTree-F}
use Rattle.dp_policy.specs.declared.tree.PTree.TheFolds.{fold-PTree}

-- the trees of a list, one after the other
abbrev pub policy_trees : List PolicyTree → PolicyTrees
policy_trees [] = no_trees
policy_trees (q ∷ qs) = more_trees q (policy_trees qs)

-- one node, with the policy tree of each child in its place
abbrev pub policy_tree_node : PTree-F PolicyTree → PolicyTree
policy_tree_node t = node t.action (policy_trees t.kids.items)

-- the policy tree that the value holds
unfoldable pub policy_tree : PTree → PolicyTree
policy_tree = fold-PTree PolicyTree policy_tree_node
