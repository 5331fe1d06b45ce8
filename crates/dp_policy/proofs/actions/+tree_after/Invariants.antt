use Rattle.std.proofs.Common.{◌≡◌, ◌+◌, ◌*◌, ◌-◌, length, map}
use Rattle.std.specs.List.{range_with_len}
use Rattle.dp_spec.specs.FullPolicy.{tree_doing_after}
use Rattle.dp_policy.specs.ActionRows.{action_in}
use Rattle.dp_policy.specs.TreeValue.{policy_tree}
use Rattle.dp_policy.proofs.actions.+tree_after.Given as goal

abbrev pub decreases-tree_after : goal.decreases-tree_after
decreases-tree_after l = length l.rows.now - l.stage

-- the trees so far
abbrev pub invariant-loop-seen : goal.invariant-loop-seen
invariant-loop-seen l =
    map policy_tree l.kids.items
    ≡ map (λ o. tree_doing_after l.observations (action_in (map (λ row. row.items) l.rows))
    (length l.rows - (l.stage + 1)) (l.stage + 1) (l.history * l.observations + o))
    (range_with_len 0 l.seen)
