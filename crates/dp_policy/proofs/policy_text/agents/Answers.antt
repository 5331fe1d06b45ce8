use Rattle.std.proofs.Common.{◌≡◌, ◌<◌, ap, sym, ◌∙◌, map, arith, ◌∷◌, [], ◌++◌, length}
use Rattle.std.proofs.lemmas.List.{map-append}
use Rattle.std.proofs.lemmas.Result.{err_from_is_err_and}
use Rattle.dp_model.specs.declared.limit.TooLarge.{TooLarge}
use Rattle.dp_policy.specs.PolicyGrammar.{agent_words}
use Rattle.dp_policy.specs.Reading.{agents_of, rows_of}
use Rattle.dp_lines.proofs.TextParts.{fails_also}
use Rattle.dp_policy.proofs.AgentParts.{action_some, histories_few, agent_words_are, agents_further}
use Rattle.dp_policy.proofs.AgentParts.{agents_stop_at_title, agents_stop_at_rows}
use Rattle.dp_policy.proofs.policy_text.agents.Goals as goal

pub returns-in_err-named : goal.returns-in_err-named
returns-in_err-named c =
    let l = c.loop-agent in
    let m = c.args.model.now.model in
    let p = err_from_is_err_and c.from_residual-in_err-named.result c.from_residual-in_err-named.ensures.1 in
    let inside : l.agent < length m.actions = omega arith in
    let seen : l.agent < length m.observations = omega (arith, c.invariant.ensures.model.sizes.alike) in
    let title = c.in_err-named.ensures (agent_words l.agent) (agent_words_are l.agent (omega arith))
    (c.as_slice.ensures.value ∙ c.in_ok-line.ensures.ok) in
    rw (p.1, p.2) (fails_also _ _ _ (λ fault e.
    sym l.invariant ∙ agents_stop_at_title TooLarge c.args.horizon m.actions m.observations l.agent
    (agents_of l.agents) l.at.line l.at.rest.now fault inside seen e)
    title)

pub stages-requires-clause-some : goal.stages-requires-clause-some
stages-requires-clause-some c = rw c.actions.ensures (action_some c.args.model.now.model c.loop-agent.agent
    c.invariant.ensures.model (omega arith))

pub stages-requires-clause-few : goal.stages-requires-clause-few
stages-requires-clause-few c = λ t in_time.
    rw c.observations.ensures (histories_few c.args.model.now.model.observations c.args.horizon
    c.loop-agent.agent
    t c.requires.own_histories (omega (arith, c.invariant.ensures.model.sizes.alike)) in_time)

pub returns-in_err-rows : goal.returns-in_err-rows
returns-in_err-rows c =
    let l = c.loop-agent in
    let m = c.args.model.now.model in
    let p = err_from_is_err_and c.from_residual-in_err-rows.result c.from_residual-in_err-rows.ensures.1 in
    let inside : l.agent < length m.actions = omega arith in
    let seen : l.agent < length m.observations = omega (arith, c.invariant.ensures.model.sizes.alike) in
    let title = c.in_ok-named.ensures (agent_words l.agent) (agent_words_are l.agent (omega arith))
    (c.as_slice.ensures.value ∙ c.in_ok-line.ensures.ok) in
    let rows = rw (c.actions.ensures, c.observations.ensures) at c.in_err-rows.ensures in
    rw (p.1, p.2) (fails_also _ _ _ (λ fault e.
    sym l.invariant ∙ agents_stop_at_rows TooLarge c.args.horizon m.actions m.observations l.agent
    (agents_of l.agents) l.at.line c.in_ok-named.named.line l.at.rest.now c.in_ok-named.named.rest.now fault
    inside seen title e)
    rows)

pub loop-agent-preserved : goal.loop-agent-preserved
loop-agent-preserved c =
    let l = c.loop-agent in
    let m = c.args.model.now.model in
    let inside : l.agent < length m.actions = omega arith in
    let seen : l.agent < length m.observations = omega (arith, c.invariant.ensures.model.sizes.alike) in
    let title = c.in_ok-named.ensures (agent_words l.agent) (agent_words_are l.agent (omega arith))
    (c.as_slice.ensures.value ∙ c.in_ok-line.ensures.ok) in
    let rows = rw (c.actions.ensures, c.observations.ensures) at c.in_ok-rows.ensures in
    let grown : agents_of c.push.new.self ≡ agents_of l.agents ++ rows_of c.in_ok-rows.rows ∷ [] =
    ap (map rows_of) c.in_ok-push.ensures.items ∙ map-append rows_of l.agents.items (c.in_ok-rows.rows ∷ []) in
    rw grown (sym (agents_further TooLarge c.args.horizon m.actions m.observations l.agent (agents_of l.agents)
    l.at.line c.in_ok-named.named.line c.in_ok-rows.behind.line l.at.rest.now c.in_ok-named.named.rest.now
    c.in_ok-rows.behind.rest.now
    (rows_of c.in_ok-rows.rows) inside seen title rows) ∙ l.invariant)
