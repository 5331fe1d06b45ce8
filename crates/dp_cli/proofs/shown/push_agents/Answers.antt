use Rattle.std.proofs.Common.{◌≡◌, ◌<◌, ◌++◌, length, get_or, sym, ap, ◌∙◌, arith}
use Rattle.std.specs.List.{flat_map, range_with_len}
use Rattle.dp_spec.specs.PolicyTree.{PolicyTree}
use Rattle.dp_spec.specs.SharedPolicy.{unfolded}
use Rattle.dp_policy.proofs.JoinedRows.{rows_alike}
use Rattle.dp_cli.specs.ShownPolicies.{agent_text, lines_of_agent, policy_text}
use Rattle.dp_cli.proofs.ActorsOfRows.{tree_of_rows}
use Rattle.dp_cli.proofs.ShownTexts.{one_more}
use Rattle.dp_cli.proofs.shown.push_agents.Goals as goal

pub loop-agent-preserved : goal.loop-agent-preserved
unfolding lines_of_agent
loop-agent-preserved c =
    let m = c.args.model.now.model in
    let p = c.args.policy.now in
    let i = c.loop-agent.agent in
    let there : i < length p.rows =
    omega (arith, c.agents-agent-end.ensures.is, c.loop-agent-test.true, rows_alike c.requires.policy.agents) in
    one_more (lines_of_agent c.args.model.now.names m.observations (unfolded p.rows) p.horizon)
    c.args.text.now.items c.loop-agent.text.items c.push_agent.new.text.items i c.loop-agent.invariant
    (c.in_ok-push_agent.ensures ∙ ap (λ (q : PolicyTree). c.loop-agent.text.items
    ++ agent_text c.args.model.now.names i (get_or m.observations i 0) q p.horizon)
    (sym (tree_of_rows p.rows i there)))

pub returns : goal.returns
unfolding policy_text
returns c =
    let m = c.args.model.now.model in
    let p = c.args.policy.now in
    let all : c.loop-agent.agent ≡ length m.observations =
    omega (
      arith,
      c.agents-agent-end.ensures.is,
      c.loop-agent-test.false,
      c.loop-agent.auto.agent-end,
      c.invariant.ensures.model.sizes.alike,
    ) in
    c.loop-agent.invariant ∙ ap (λ n. c.args.text.now.items ++ flat_map (lines_of_agent c.args.model.now.names
    m.observations (unfolded p.rows) p.horizon) (range_with_len 0 n)) all
