use Rattle.std.proofs.Common.{◌≡◌, ◌-◌, map, replicate}
use Rattle.dp_spec.specs.ConstantPolicy.{constant_tree}
use Rattle.dp_policy.specs.TreeValue.{policy_tree}
use Rattle.dp_policy.proofs.trees_of_action.+constant_tree.Given as goal

abbrev pub decreases-constant_tree : goal.decreases-constant_tree
decreases-constant_tree l = l.steps

abbrev pub invariant-loop-seen : goal.invariant-loop-seen
invariant-loop-seen l = map policy_tree l.kids.items ≡ replicate l._seen
    (constant_tree l.observations (l.steps - 1) l.action)
