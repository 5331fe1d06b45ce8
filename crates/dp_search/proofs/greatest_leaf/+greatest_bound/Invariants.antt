use Rattle.std.proofs.Common.{◌≡◌, false, pos, drop, map}
use Rattle.dp_spec.specs.BoundTree.{greatest_leaf_of}
use Rattle.dp_tree.specs.TreeValue.{bound_tree, bound_trees}
use Rattle.dp_search.proofs.LeavesSoFar.{greatest_with}
use Rattle.dp_search.proofs.greatest_leaf.+greatest_bound.Given as goal

abbrev pub decreases-greatest_bound : goal.decreases-greatest_bound
decreases-greatest_bound l = goal.size-greatest_bound l

abbrev pub invariant-loop-kid : goal.invariant-loop-kid
invariant-loop-kid l =
    (greatest_with l.some l.greatest (map bound_tree (drop l.kid-index l.kid-items))
    ≡ greatest_leaf_of (bound_trees (map bound_tree l.kid-items)))
    × (l.some ≡ false → l.greatest ≡ pos 0)
