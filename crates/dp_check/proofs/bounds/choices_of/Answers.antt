use Rattle.std.proofs.Common.{◌<◌, length, arith}
use Rattle.dp_check.proofs.Choices.{own_in, reading_next, some_after}
use Rattle.dp_check.proofs.bounds.choices_of.Goals as goal

pub nonzero_div-rest : goal.nonzero_div-rest
nonzero_div-rest c =
    let ds = c.args.front.now.front.agents in
    let lt : c.loop-agent.agent < length ds = omega (
      arith,
      c.agents-agent-end.ensures,
      c.loop-agent-test.true,
    ) in
    some_after ds c.args.class c.loop-agent.agent c.loop-agent.left c.loop-agent.rest c.classes.result
    c.loop-agent.choices lt c.invariant.ensures.agents c.classes.ensures c.loop-agent.invariant

pub action-requires-clause-class : goal.action-requires-clause-class
action-requires-clause-class c =
    let ds = c.args.front.now.front.agents in
    let lt : c.loop-agent.agent < length ds = omega (
      arith,
      c.agents-agent-end.ensures,
      c.loop-agent-test.true,
    ) in
    own_in ds c.args.class c.loop-agent.agent c.loop-agent.left c.loop-agent.rest c.classes.result
    c.loop-agent.choices lt c.invariant.ensures.agents c.classes.ensures c.loop-agent.invariant

pub nonzero_rem-rest : goal.nonzero_rem-rest
nonzero_rem-rest c =
    let ds = c.args.front.now.front.agents in
    let lt : c.loop-agent.agent < length ds = omega (
      arith,
      c.agents-agent-end.ensures,
      c.loop-agent-test.true,
    ) in
    some_after ds c.args.class c.loop-agent.agent c.loop-agent.left c.loop-agent.rest c.classes.result
    c.loop-agent.choices lt c.invariant.ensures.agents c.classes.ensures c.loop-agent.invariant

pub loop-agent-preserved : goal.loop-agent-preserved
loop-agent-preserved c =
    let ds = c.args.front.now.front.agents in
    let lt : c.loop-agent.agent < length ds = omega (
      arith,
      c.agents-agent-end.ensures,
      c.loop-agent-test.true,
    ) in
    reading_next ds c.args.class c.loop-agent.agent c.loop-agent.left c.loop-agent.rest c.classes.result
    c.loop-agent.choices lt c.invariant.ensures.agents c.classes.ensures c.loop-agent.invariant _
    c.action.ensures
