-- The bound tree that a `Tree` holds. (Own.)
use Rattle.std.specs.Prelude.{List, [], ◌∷◌}
use Rattle.dp_spec.specs.BoundTree.{BoundTree, BoundTrees, leaf, branch, merge, no_bound_trees, more_bound_trees}
use Rattle.dp_tree.specs.declared.tree.Tree.{Tree}
use Rattle.dp_tree.specs.declared.tree.Tree.TheOpen.{Tree-F}
use Rattle.dp_tree.specs.declared.tree.Tree.TheFolds.{fold-Tree}
use Rattle.dp_tree.specs.declared.tree.Tree.TheOpen.{Leaf, Branch, Merge}

-- the trees of a list, one after the other
abbrev pub bound_trees : List BoundTree → BoundTrees
bound_trees [] = no_bound_trees
bound_trees (t ∷ ts) = more_bound_trees t (bound_trees ts)

-- one node, with the bound tree of each child in its place
abbrev pub bound_tree_node : Tree-F BoundTree → BoundTree
bound_tree_node (Leaf x) = leaf x
bound_tree_node (Branch i c kids) = branch i c (bound_trees kids.items)
bound_tree_node (Merge i a b kid) = merge i a b kid.value

-- the bound tree that the value holds
unfoldable pub bound_tree : Tree → BoundTree
bound_tree = fold-Tree BoundTree bound_tree_node
