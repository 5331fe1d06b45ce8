use Rattle.std.proofs.Common.{◌<◌, [], add-one, length, map, refl, sym, arith}
use Rattle.std.proofs.lemmas.List.{length-map}
use Rattle.dp_policy.proofs.JoinedRows.{agent_fails, agent_step, agents_end, rows_alike}
use Rattle.dp_policy.proofs.Lists.{is_not, is_so, mapped_at, not_true}
use Rattle.dp_policy.proofs.joined_rows.are_of_agents.Goals as goal

pub returns-then-rows-agents : goal.returns-then-rows-agents
returns-then-rows-agents c =
    is_not (λ all. let counted = length-map c.args.rows.now (λ s. map (λ r. r.items) s.items) in
    let alike = rows_alike all in
    absurd (omega (arith, counted, alike, c.agents.ensures.is, c.if-rows-agents.true)))

pub returns-then-not-are_agent_rows : goal.returns-then-not-are_agent_rows
returns-then-not-are_agent_rows c =
    let counted = length-map c.args.rows.now (λ s. map (λ r. r.items) s.items) in
    let inside : c.loop-agent.agent < length c.args.rows.now = omega (
      arith,
      c.agents.ensures.is,
      c.agents-agent-end.ensures.is,
      c.if-rows-agents.false,
      c.loop-agent-test.true,
    ) in
    let e = mapped_at (λ s. map (λ r. r.items) s.items) c.args.rows.now c.loop-agent.agent []
    c.index-rows-agent.result inside c.index-rows-agent.is in
    is_not (agent_fails c.args.horizon c.args.model.now.model.actions c.args.model.now.model.observations
    (map (λ s. map (λ r. r.items) s.items) c.args.rows.now) c.loop-agent.agent (omega (arith, counted, inside))
    (λ one. not_true (c.if-not-are_agent_rows.ensures.1 (rw (
      c.actions.ensures,
      c.observations.ensures,
      c.deref-stages.ensures.value,
      sym e,
    ) one))))

pub loop-agent-preserved : goal.loop-agent-preserved
loop-agent-preserved c =
    let counted = length-map c.args.rows.now (λ s. map (λ r. r.items) s.items) in
    let alike = c.invariant.ensures.model.sizes.alike in
    let inside : c.loop-agent.agent < length c.args.rows.now = omega (
      arith,
      c.agents.ensures.is,
      c.agents-agent-end.ensures.is,
      c.if-rows-agents.false,
      c.loop-agent-test.true,
    ) in
    let e = mapped_at (λ s. map (λ r. r.items) s.items) c.args.rows.now c.loop-agent.agent []
    c.index-rows-agent.result inside c.index-rows-agent.is in
    rw add-one
    (agent_step c.args.horizon c.args.model.now.model.actions c.args.model.now.model.observations
    (map (λ s. map (λ r. r.items) s.items) c.args.rows.now) c.loop-agent.agent
    (omega (arith, c.agents-agent-end.ensures.is, c.loop-agent-test.true))
    (omega (arith, alike, c.agents-agent-end.ensures.is, c.loop-agent-test.true))
    (omega (arith, counted, inside)) c.loop-agent.invariant
    (rw (e, ← c.deref-stages.ensures.value, ← c.actions.ensures, ← c.observations.ensures)
    (c.if-not-are_agent_rows.ensures.0 refl)))

pub returns : goal.returns
returns c =
    let counted = length-map c.args.rows.now (λ s. map (λ r. r.items) s.items) in
    let alike = c.invariant.ensures.model.sizes.alike in
    is_so (agents_end c.args.horizon c.args.model.now.model.actions c.args.model.now.model.observations
    (map (λ s. map (λ r. r.items) s.items) c.args.rows.now) c.loop-agent.agent
    (omega (arith, c.agents-agent-end.ensures.is, c.loop-agent-test.false))
    (omega (arith, alike, c.agents-agent-end.ensures.is, c.loop-agent-test.false))
    (omega (
      arith,
      counted,
      c.agents.ensures.is,
      c.agents-agent-end.ensures.is,
      c.if-rows-agents.false,
      c.loop-agent-test.false,
    ))
    c.loop-agent.invariant)
