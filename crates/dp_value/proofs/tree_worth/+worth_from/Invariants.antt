use Rattle.std.proofs.Common.{◌≡◌, length}
use Rattle.dp_value.specs.JointTrees.{first_trees}
use Rattle.dp_value.specs.WeightUpdates.{weights_of}
use Rattle.dp_value.proofs.TreeWorths.{earned_after}
use Rattle.dp_value.proofs.tree_worth.+worth_from.Given as goal

abbrev pub decreases-worth_from : goal.decreases-worth_from
decreases-worth_from g l = l.rest

abbrev pub invariant-loop-seen : goal.invariant-loop-seen
invariant-loop-seen g l =
    l.total ≡ earned_after (g.A.Arith.operations l.arith) l.model.model l.rest (weights_of l.fn.weights)
    (first_trees (length l.model.model.actions) l.trees) l.seen
