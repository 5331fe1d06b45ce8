use Rattle.std.proofs.Common.{◌≡◌, ◌+◌, ◌≤◌, ◌^◌, drop, map}
use Rattle.dp_spec.specs.BoundTree.{node_count, node_counts}
use Rattle.dp_tree.specs.TreeValue.{bound_tree, bound_trees}
use Rattle.dp_check.specs.Bounding.{IsLookRoom, arithmetic_of}
use Rattle.dp_check.specs.Nodes.{nodes_at}
use Rattle.dp_check.specs.Walks.{walked}
use Rattle.dp_check.proofs.WalkSteps.{choices_from}
use Rattle.dp_check.proofs.walk.+walk.Given as goal

abbrev pub decreases-walk : goal.decreases-walk
decreases-walk l = node_count (bound_tree l.tree.now)

abbrev pub invariant-loop-action : goal.invariant-loop-action
invariant-loop-action l =
    let A = arithmetic_of l.m.model l.bounds in
    let left = map bound_tree (drop l.action l.kids.items) in
    (walked A l.m.model l.bounds.fit.horizon (nodes_at l.m.model l.bounds (bound_tree l.tree) l.node) l.fn.tally
    ≡ walked A l.m.model l.bounds.fit.horizon (choices_from l.m.model l.bounds l.node l.agent l.class l.action
    left) l.tally)
    × (l.tally.nodes + node_counts (bound_trees left) ≤ 2 ^ 28)
    × (l.tally.inner ≤ l.tally.nodes)
    × (IsLookRoom l.m.model l.bounds l.room)
