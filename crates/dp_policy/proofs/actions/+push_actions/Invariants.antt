use Rattle.std.proofs.Common.{◌≡◌, ◌-◌, ◌++◌, drop, map}
use Rattle.dp_policy.specs.ActionRows.{actions_below, actions_of_all}
use Rattle.dp_policy.specs.TreeValue.{policy_tree, policy_trees}
use Rattle.dp_policy.specs.declared.tree.PTree.TheViews.{out-PTree}
use Rattle.dp_policy.proofs.actions.+push_actions.Given as goal

abbrev pub decreases-push_actions : goal.decreases-push_actions
decreases-push_actions l = l.steps

-- what is written and what is still to be are all
abbrev pub invariant-loop-kid : goal.invariant-loop-kid
invariant-loop-kid l =
    l.row.items ++ actions_of_all (l.steps - 1) (policy_trees
    (map policy_tree (drop l.kid-index (out-PTree l.tree).kids.items)))
    ≡ l.fn.row.items ++ actions_below l.steps (policy_tree l.tree)
