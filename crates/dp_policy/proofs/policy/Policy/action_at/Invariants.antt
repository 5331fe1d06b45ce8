use Rattle.std.proofs.Common.{◌≡◌, ◌-◌, ◌^◌, drop}
use Rattle.dp_spec.specs.PolicyTree.{IsPolicyTree}
use Rattle.dp_policy.specs.SharedRows.{remaining_after}
use Rattle.dp_policy.specs.TreeValue.{policy_tree}
use Rattle.dp_policy.specs.Trees.{joint_policy, observations_of, tree_of}
use Rattle.dp_policy.proofs.policy.Policy.action_at.Given as goal

abbrev pub invariant-loop-seen : goal.invariant-loop-seen
invariant-loop-seen l = record {
  whole : IsPolicyTree (2 ^ 32) (observations_of (joint_policy l.self) l.agent) (l.self.horizon - l.seen-index)
      (policy_tree l.here);
  reached : remaining_after (tree_of (joint_policy l.self) l.agent) l.history
      ≡ remaining_after (policy_tree l.here) (drop l.seen-index l.history);
}
