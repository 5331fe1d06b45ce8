use Rattle.std.proofs.Common.{◌≤◌, length, ◌∙◌, arith}
use Rattle.std.proofs.lemmas.List.{take_all}
use Rattle.dp_game.proofs.ActionParts.{parts_are}
use Rattle.dp_game.proofs.actions.JointActions.of.Goals as goal

pub invariant_of-result : goal.invariant_of-result
invariant_of-result c =
    let m = c.args.model.now.model in
    let le : length m.actions ≤ c.loop-agent.agent = omega
    (arith, c.agents-agent-end.ensures.is, c.loop-agent-test.false) in
    parts_are m _ _ _ 0 c.invariant.ensures.model (c.loop-agent.invariant
    ∙ take_all c.loop-agent.agent m.actions le)
    c.joint_actions.ensures.is c.in_ok-action_parts.ensures
