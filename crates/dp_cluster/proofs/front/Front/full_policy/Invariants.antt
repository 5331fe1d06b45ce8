use Rattle.std.proofs.Common.{◌≡◌, ◌++◌, drop, map}
use Rattle.dp_spec.specs.FullPolicy.{full_policy, trees_doing_fixed}
use Rattle.dp_policy.specs.TreeValue.{policy_tree}
use Rattle.dp_cluster.proofs.front.Front.full_policy.Given as goal

abbrev pub invariant-loop-agent : goal.invariant-loop-agent
invariant-loop-agent l =
    map policy_tree l.trees.items
    ++ trees_doing_fixed l.self.front.stage (drop l.agent l.m.model.observations)
    (drop l.agent l.self.front.agents)
    ≡ full_policy l.m.model l.self.front
