use Rattle.std.proofs.Common.{add-one, arith}
use Rattle.dp_value.proofs.JointRows.{count_above, counted}
use Rattle.dp_value.proofs.rows.joint_rows.Goals as goal

pub overflow_mul-count : goal.overflow_mul-count
overflow_mul-count c =
    let one = counted c.args.model.now.model c.invariant.ensures.model c.args.policy.now.horizon
    c.args.policy.now.rows c.requires.policy c.args.stage c.requires.stage c.loop-agent.agent
    c.loop-agent.count c.rows.result
    (omega (arith, c.agents-agent-end.ensures.is, c.loop-agent-test.true))
    c.rows.ensures.is c.loop-agent.invariant in
    omega (arith, one.0)

pub loop-agent-preserved : goal.loop-agent-preserved
loop-agent-preserved c =
    rw add-one (counted c.args.model.now.model c.invariant.ensures.model c.args.policy.now.horizon
    c.args.policy.now.rows c.requires.policy c.args.stage c.requires.stage c.loop-agent.agent
    c.loop-agent.count c.rows.result
    (omega (arith, c.agents-agent-end.ensures.is, c.loop-agent-test.true))
    c.rows.ensures.is c.loop-agent.invariant).1

pub returns-clause-some : goal.returns-clause-some
returns-clause-some c =
    count_above c.args.model.now.model c.invariant.ensures.model c.args.policy.now.horizon
    c.args.policy.now.rows
    c.requires.policy c.args.stage c.requires.stage c.loop-agent.count _ c.loop-agent.invariant
