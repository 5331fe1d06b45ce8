use Rattle.std.proofs.Common.{◌≡◌, ◌++◌, drop, map, codes}
use Rattle.std.specs.List.{range_with_len}
use Rattle.dp_policy.specs.ActionRows.{actions_below}
use Rattle.dp_policy.specs.PolicyBytes.{agents_bytes, policy_bytes}
use Rattle.dp_policy.specs.Trees.{joint_policy}
use Rattle.dp_policy.proofs.write_text.written.Given as goal

-- what is written and what is still to be are all
abbrev pub invariant-loop-agent : goal.invariant-loop-agent
invariant-loop-agent l =
    l.text.items ++ (agents_bytes l.agent (map (λ q. map (λ t. actions_below t q)
    (range_with_len 0 l.policy.horizon)) (drop l.agent (joint_policy l.policy))) ++ codes "end\n")
    ≡ policy_bytes l.policy.horizon (map (λ q. map (λ t. actions_below t q) (range_with_len 0 l.policy.horizon))
    (joint_policy l.policy))
