use Rattle.std.proofs.Common.{◌<◌, ◌≤◌, length, arith}
use Rattle.dp_spec.specs.JointNumbers.{parts_of}
use Rattle.dp_spec.proofs.JointNumberLaws.{length-parts_of}
use Rattle.dp_game.proofs.ActionParts.{part_small}
use Rattle.dp_game.proofs.Rows.{pushed_all, pushed_more}
use Rattle.dp_game.proofs.actions.push_parts.Goals as goal

pub overflow_cast-local_action : goal.overflow_cast-local_action
overflow_cast-local_action c =
    let hj : c.loop-agent.agent < length c.args.model.now.model.actions = omega
    (arith, c.agents-agent-end.ensures.is, c.loop-agent-test.true) in
    let lt = part_small c.args.model.now.model c.args.action c.loop-agent.agent c.invariant.ensures.model
    c.requires.action hj in
    rw c.local_action.ensures (omega arith)

pub loop-agent-preserved : goal.loop-agent-preserved
loop-agent-preserved c =
    let long = length-parts_of c.args.model.now.model.actions c.args.action in
    let hj : c.loop-agent.agent < length (parts_of c.args.model.now.model.actions c.args.action) = omega
    (arith, c.agents-agent-end.ensures.is, c.loop-agent-test.true) in
    pushed_more _ _ _ (parts_of c.args.model.now.model.actions c.args.action) c.loop-agent.agent 0 _ hj
    c.local_action.ensures c.loop-agent.invariant c.in_ok-push.ensures.items

pub returns : goal.returns
returns c =
    let long = length-parts_of c.args.model.now.model.actions c.args.action in
    let le : length (parts_of c.args.model.now.model.actions c.args.action) ≤ c.loop-agent.agent = omega
    (arith, c.agents-agent-end.ensures.is, c.loop-agent-test.false) in
    pushed_all _ _ (parts_of c.args.model.now.model.actions c.args.action) c.loop-agent.agent le
    c.loop-agent.invariant
