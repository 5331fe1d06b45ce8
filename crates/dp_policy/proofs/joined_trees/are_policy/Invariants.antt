use Rattle.std.proofs.Common.{drop, map}
use Rattle.std.specs.Prelude.{◌↔◌}
use Rattle.dp_spec.specs.PolicyTree.{IsJointPolicy}
use Rattle.dp_policy.specs.TreeValue.{policy_tree}
use Rattle.dp_policy.proofs.joined_trees.are_policy.Given as goal

abbrev pub invariant-loop-agent : goal.invariant-loop-agent
invariant-loop-agent l =
    IsJointPolicy l.horizon l.model.model.actions l.model.model.observations (map policy_tree l.trees)
    ↔ IsJointPolicy l.horizon (drop l.agent l.model.model.actions) (drop l.agent l.model.model.observations)
    (drop l.agent (map policy_tree l.trees))
