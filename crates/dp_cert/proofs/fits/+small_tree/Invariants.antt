use Rattle.std.proofs.Common.{drop, map}
use Rattle.dp_tree.specs.TreeValue.{bound_tree}
use Rattle.dp_cert.proofs.TreeSizeSteps.{AreSmallFrom}
use Rattle.dp_cert.proofs.fits.+small_tree.Given as goal

abbrev pub decreases-small_tree : goal.decreases-small_tree
decreases-small_tree l = goal.size-small_tree l

abbrev pub invariant-loop-kid : goal.invariant-loop-kid
invariant-loop-kid l = AreSmallFrom l.deepest l.most l.count (map bound_tree l.kid-items)
    (map bound_tree (drop l.kid-index l.kid-items))
