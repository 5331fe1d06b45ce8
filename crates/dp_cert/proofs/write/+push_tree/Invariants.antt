use Rattle.std.proofs.Common.{◌≡◌, ◌++◌, drop, map}
use Rattle.dp_tree.specs.TreeValue.{bound_tree, bound_trees}
use Rattle.dp_cert.specs.CertificateBytes.{children_bytes, node_bytes}
use Rattle.dp_cert.specs.TypedNumbers.{HasTypedNumbers, HaveTypedNumbers}
use Rattle.dp_cert.proofs.write.+push_tree.Given as goal

abbrev pub decreases-push_tree : goal.decreases-push_tree
decreases-push_tree l = goal.size-push_tree l

-- what is written and what is still to be are all; and where the numbers of the children to come are typed, all are
abbrev pub invariant-loop-kid : goal.invariant-loop-kid
invariant-loop-kid l =
    (l.text.items ++ children_bytes (bound_trees (map bound_tree (drop l.kid-index l.kid-items)))
    ≡ l.fn.text.items ++ node_bytes (bound_tree l.tree))
    × (HaveTypedNumbers (bound_trees (map bound_tree (drop l.kid-index l.kid-items)))
    → HasTypedNumbers (bound_tree l.tree))
