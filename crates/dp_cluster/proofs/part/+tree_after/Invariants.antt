use Rattle.std.proofs.Common.{◌≡◌, ◌+◌, ◌-◌, ◌*◌, ◌^◌, ◌<◌, ℕ, suc, drop, length, map}
use Rattle.std.specs.List.{range_with_len}
use Rattle.dp_spec.specs.FullPolicy.{tree_doing_after}
use Rattle.dp_policy.specs.TreeValue.{policy_tree}
use Rattle.dp_cluster.specs.AgentParts.{action_after, class_after}
use Rattle.dp_cluster.proofs.part.+tree_after.Given as goal

abbrev pub decreases-tree_after : goal.decreases-tree_after
decreases-tree_after l = l.left

abbrev pub invariant-loop-seen : goal.invariant-loop-seen
invariant-loop-seen l =
    (t x : ℕ) → t + l.left ≡ length l.past → x < l.observations ^ t
    → class_after l.observations (drop l.left (map (λ s. s.value) l.past)) x ≡ l.class
    → map policy_tree l.kids.items
    ≡ map (λ o. tree_doing_after l.observations (action_after l.observations (map (λ s. s.value) l.past))
    (l.left - 1) (suc t)
    (x * l.observations + o)) (range_with_len 0 l.seen)
