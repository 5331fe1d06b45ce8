use Rattle.std.proofs.Common.{take, All, ◌-◌}
use Rattle.dp_spec.specs.PolicyTree.{IsPolicyTree}
use Rattle.dp_policy.specs.TreeValue.{policy_tree}
use Rattle.dp_policy.proofs.tree.+is_tree.Given as goal

abbrev pub invariant-loop-kid : goal.invariant-loop-kid
invariant-loop-kid l =
    All (λ k. IsPolicyTree l.actions l.observations (l.steps - 1) (policy_tree k))
    (take l.kid-index l.kid-items)
