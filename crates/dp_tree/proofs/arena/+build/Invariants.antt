use Rattle.std.proofs.Common.{◌-◌, length, map}
use Rattle.dp_spec.specs.Arena.{AreTreesAt}
use Rattle.dp_tree.specs.TreeValue.{bound_trees, bound_tree}
use Rattle.dp_tree.proofs.arena.+build.Given as goal

abbrev pub decreases-build : goal.decreases-build
decreases-build l = length l.nodes.now - l.node

abbrev pub invariant-loop-k : goal.invariant-loop-k
invariant-loop-k l = AreTreesAt l.nodes l.first_child l.k (bound_trees (map bound_tree l.kids.items))
