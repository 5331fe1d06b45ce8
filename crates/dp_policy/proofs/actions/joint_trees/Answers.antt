use Rattle.std.proofs.Common.{◌≡◌, ◌<◌, ◌-◌, ◌^◌, [], length, get_or, ap, sym, ◌∙◌, arith}
use Rattle.dp_spec.specs.FullPolicy.{tree_doing_after}
use Rattle.dp_policy.specs.ActionRows.{action_in}
use Rattle.dp_policy.specs.Reading.{agents_of, rows_of}
use Rattle.dp_policy.proofs.AgentParts.{histories_few}
use Rattle.dp_policy.proofs.AgentTrees.{AreAgentStages, agent_stages, agents_counted, one_tree_more, rows_of_agent}
use Rattle.dp_policy.proofs.AgentTrees.{stages_are}
use Rattle.std.proofs.lemmas.List.{length-map}
use Rattle.dp_policy.proofs.actions.joint_trees.Goals as goal

pub index-requires : goal.index-requires
index-requires c =
    let m = c.args.model.now.model in
    let count = agents_counted c.args.rows.now.horizon m.actions m.observations
    (agents_of c.args.rows.now.agents)
    c.requires.rows in
    omega (
      arith,
      count.0,
      length-map c.args.rows.now.agents.items rows_of,
      c.loop-agent-test.true,
      c.agents-agent-end.ensures.is,
    )

-- the rows of the agent
stages : (c : goal.After-observations) → AreAgentStages (get_or c.args.model.now.model.observations
    c.loop-agent.agent 0) c.args.rows.now.horizon c.deref-stages.result.now
stages c =
    let m = c.args.model.now.model in
    let h = c.args.rows.now.horizon in
    let i = c.loop-agent.agent in
    let agents = c.args.rows.now.agents in
    let count = agents_counted h m.actions m.observations (agents_of agents) c.requires.rows in
    let inside : i < length (agents_of agents) = omega (
      arith,
      count.0,
      c.loop-agent-test.true,
      c.agents-agent-end.ensures.is,
    ) in
    let there : i < length agents.items = omega (arith, inside, length-map agents.items rows_of) in
    let rows = rows_of_agent h m.actions m.observations (agents_of agents) c.requires.rows i inside in
    let is = stages_are agents i c.index.result.now c.deref-stages.result.now there c.index.ensures
    c.deref-stages.ensures.value in
    agent_stages (get_or m.actions i 0) (get_or m.observations i 0) h (get_or (agents_of agents) i [])
    c.deref-stages.result.now rows is

pub tree_after-requires-clause-stage : goal.tree_after-requires-clause-stage
tree_after-requires-clause-stage c = let s = stages c in omega (arith, s.steps, c.requires.within.some_step)

pub tree_after-requires-clause-histories : goal.tree_after-requires-clause-histories
tree_after-requires-clause-histories c =
    λ t lt. (stages c).histories t lt ∙ ap (λ n. n ^ t) (sym c.observations.ensures)

pub tree_after-requires-clause-few : goal.tree_after-requires-clause-few
tree_after-requires-clause-few c =
    λ t lt.
    let s = stages c in
    let m = c.args.model.now.model in
    rw c.observations.ensures (histories_few m.observations c.args.rows.now.horizon c.loop-agent.agent t
    c.requires.within.own_histories
    (omega (
      arith,
      c.invariant.ensures.model.sizes.alike,
      c.loop-agent-test.true,
      c.agents-agent-end.ensures.is,
    ))
    (omega (arith, s.steps)))

pub tree_after-requires-clause-steps : goal.tree_after-requires-clause-steps
tree_after-requires-clause-steps c = let s = stages c in omega (arith, s.steps, c.requires.within.horizon)

pub loop-agent-preserved : goal.loop-agent-preserved
loop-agent-preserved c =
    let m = c.args.model.now.model in
    let h = c.args.rows.now.horizon in
    let i = c.loop-agent.agent in
    let agents = c.args.rows.now.agents in
    let count = agents_counted h m.actions m.observations (agents_of agents) c.requires.rows in
    let inside : i < length (agents_of agents) = omega (
      arith,
      count.0,
      c.loop-agent-test.true,
      c.agents-agent-end.ensures.is,
    ) in
    let there : i < length agents.items = omega (arith, inside, length-map agents.items rows_of) in
    let seen : i < length m.observations = omega (arith, inside, count.1) in
    let rows = rows_of_agent h m.actions m.observations (agents_of agents) c.requires.rows i inside in
    let is = stages_are agents i c.index.result.now c.deref-stages.result.now there c.index.ensures
    c.deref-stages.ensures.value in
    let known = agent_stages (get_or m.actions i 0) (get_or m.observations i 0) h
    (get_or (agents_of agents) i [])
    c.deref-stages.result.now rows is in
    let steps : length c.deref-stages.result.now - 0 ≡ h = omega (arith, known.steps) in
    one_tree_more h i m.observations (agents_of agents) c.loop-agent.trees.items c.push.new.self.items
    c.in_ok-tree_after.field-0 _ seen inside
    c.in_ok-push.ensures.items
    (c.in_ok-tree_after.ensures
    ∙ (λ j. tree_doing_after (c.observations.ensures j) (action_in (sym is j)) (steps j) 0 0))
    c.loop-agent.invariant
