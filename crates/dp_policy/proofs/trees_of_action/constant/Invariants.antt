use Rattle.std.proofs.Common.{◌≡◌, ◌++◌, drop, map}
use Rattle.dp_spec.specs.ConstantPolicy.{constant_policy, constant_trees}
use Rattle.dp_spec.specs.JointNumbers.{parts_of}
use Rattle.dp_policy.specs.TreeValue.{policy_tree}
use Rattle.dp_policy.proofs.trees_of_action.constant.Given as goal

abbrev pub invariant-loop-agent : goal.invariant-loop-agent
invariant-loop-agent l =
    map policy_tree l.trees.items
    ++ constant_trees (drop l.agent l.model.model.observations) l.horizon
    (drop l.agent (parts_of l.model.model.actions l.a))
    ≡ constant_policy l.model.model l.horizon l.a
