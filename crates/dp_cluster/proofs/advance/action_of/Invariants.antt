use Rattle.dp_spec.specs.ClassSteps.{chosen_joint_action}
use Rattle.dp_cluster.proofs.ChosenActions.{IsChoosingOn}
use Rattle.dp_cluster.proofs.advance.action_of.Given as goal

abbrev pub invariant-loop-agent : goal.invariant-loop-agent
invariant-loop-agent l = IsChoosingOn l.m.model.actions l.front.front.agents l.agent l.left l.rest l.action
    (chosen_joint_action l.m.model l.front.front l.class)
