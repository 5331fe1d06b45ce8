use Rattle.std.proofs.Common.{◌≡◌, ◌++◌, drop, map}
use Rattle.dp_policy.specs.ActionRows.{trees_of_rows}
use Rattle.dp_policy.specs.Reading.{agents_of}
use Rattle.dp_policy.specs.TreeValue.{policy_tree}
use Rattle.dp_policy.proofs.actions.joint_trees.Given as goal

-- the trees so far and those of the later agents are all
abbrev pub invariant-loop-agent : goal.invariant-loop-agent
invariant-loop-agent l =
    map policy_tree l.trees.items ++ trees_of_rows l.rows.horizon (drop l.agent l.model.model.observations)
    (drop l.agent (agents_of l.rows.agents))
    ≡ trees_of_rows l.rows.horizon l.model.model.observations (agents_of l.rows.agents)
