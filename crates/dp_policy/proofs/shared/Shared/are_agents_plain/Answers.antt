use Rattle.std.proofs.Common.{[], add-one, get_or, refl, arith}
use Rattle.dp_laws.proofs.SharedTrees.{row_nexts}
use Rattle.dp_policy.proofs.JoinedRows.{few_observations, rows_alike, rows_of_agent}
use Rattle.dp_policy.proofs.Lists.{is_not, is_so, not_true}
use Rattle.dp_policy.proofs.PlainStages.{plain_agent_fails, plain_agent_step, plain_agents_end}
use Rattle.dp_policy.proofs.shared.Shared.are_agents_plain.Goals as goal

pub observations-requires : goal.observations-requires
observations-requires c =
    let alike = c.invariant.ensures.model.sizes.alike in
    let rows = rows_alike c.requires.policy.agents in
    omega (arith, alike, rows, c.agents-agent-end.ensures.is, c.loop-agent-test.true)

pub is_agent_plain-requires-clause-few : goal.is_agent_plain-requires-clause-few
is_agent_plain-requires-clause-few c =
    rw c.observations.ensures (few_observations c.args.model.now.model c.invariant.ensures.model
    c.loop-agent.agent)

pub is_agent_plain-requires-clause-nexts : goal.is_agent_plain-requires-clause-nexts
is_agent_plain-requires-clause-nexts c =
    λ t r step lr.
    let one = rows_of_agent c.requires.policy.agents c.loop-agent.agent
    (omega (arith, c.agents-agent-end.ensures.is, c.loop-agent-test.true)) in
    let e = one.of_horizon in
    rw c.observations.ensures (row_nexts _ _ (get_or c.args.self.now.rows c.loop-agent.agent []) one.rows t r
    (omega (arith, e, step)) lr)

pub returns-then-not-is_agent_plain : goal.returns-then-not-is_agent_plain
returns-then-not-is_agent_plain c =
    is_not (plain_agent_fails c.args.self.now.horizon c.args.model.now.model.observations c.args.self.now.rows
    c.loop-agent.agent
    (omega (arith, c.agents-agent-end.ensures.is, c.loop-agent-test.true))
    (λ one. not_true (c.if-not-is_agent_plain.ensures.1 (rw c.observations.ensures one))))

pub loop-agent-preserved : goal.loop-agent-preserved
loop-agent-preserved c =
    let alike = c.invariant.ensures.model.sizes.alike in
    let rows = rows_alike c.requires.policy.agents in
    rw add-one
    (plain_agent_step c.args.self.now.horizon c.args.model.now.model.observations c.args.self.now.rows
    c.loop-agent.agent
    (omega (arith, alike, rows, c.agents-agent-end.ensures.is, c.loop-agent-test.true))
    (omega (arith, c.agents-agent-end.ensures.is, c.loop-agent-test.true))
    c.loop-agent.invariant (rw (← c.observations.ensures) (c.if-not-is_agent_plain.ensures.0 refl)))

pub returns : goal.returns
returns c =
    let alike = c.invariant.ensures.model.sizes.alike in
    let rows = rows_alike c.requires.policy.agents in
    is_so (plain_agents_end c.args.self.now.horizon c.args.model.now.model.observations c.args.self.now.rows
    c.loop-agent.agent
    (omega (arith, alike, rows, c.agents-agent-end.ensures.is, c.loop-agent-test.false))
    (omega (arith, c.agents-agent-end.ensures.is, c.loop-agent-test.false)) c.loop-agent.invariant)
