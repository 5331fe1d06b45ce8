use Rattle.std.proofs.Common.{◌+◌, ◌∷◌, [], get_or, drop, map, ap, ◌∙◌, arith}
use Rattle.std.proofs.lemmas.List.{map-append}
use Rattle.std.proofs.lemmas.Result.{err_from_is_err_and}
use Rattle.dp_cert.specs.PolicyGrammar.{plain_agent, plain_agents}
use Rattle.dp_lines.proofs.TextParts.{more_fails, more_read}
use Rattle.dp_cert.proofs.StageParts.{plain_agents_at}
use Rattle.dp_cert.proofs.plain_text.plain_agents.Goals as goal

pub returns-in_err-stages : goal.returns-in_err-stages
returns-in_err-stages c =
    let l = c.loop-agent in
    let m = c.args.model.now.model in
    let h = c.args.horizon in
    let front = map (λ s. map (λ r. r.items) s.items) l.agents.items in
    let p = err_from_is_err_and c.from_residual.result c.from_residual.ensures.1 in
    rw (p.1, p.2) (more_fails _ _ front (plain_agent h l.agent (get_or m.actions l.agent 0)
    (get_or m.observations l.agent 0))
    (plain_agents h (l.agent + 1) (drop (l.agent + 1) m.actions) (drop (l.agent + 1) m.observations))
    l.at.line l.at.rest.now
    (plain_agents_at h l.agent m.actions m.observations _ front l.at.line l.at.rest.now (omega arith)
    (omega (arith, c.invariant.ensures.model.sizes.alike)) l.invariant)
    c.in_err-stages.ensures)

pub loop-agent-preserved : goal.loop-agent-preserved
loop-agent-preserved c =
    let l = c.loop-agent in
    let m = c.args.model.now.model in
    let h = c.args.horizon in
    let front = map (λ s. map (λ r. r.items) s.items) l.agents.items in
    let grown = ap (map (λ s. map (λ r. r.items) s.items)) c.in_ok-push.ensures.items
    ∙ map-append (λ s. map (λ r. r.items) s.items) l.agents.items (c.in_ok-stages.stages ∷ []) in
    rw grown (more_read _ front (plain_agent h l.agent (get_or m.actions l.agent 0)
    (get_or m.observations l.agent 0))
    (plain_agents h (l.agent + 1) (drop (l.agent + 1) m.actions) (drop (l.agent + 1) m.observations))
    l.at.line c.in_ok-stages.behind.line
    l.at.rest.now c.in_ok-stages.behind.rest.now (map (λ r. r.items) c.in_ok-stages.stages.items)
    (plain_agents_at h l.agent m.actions m.observations _ front l.at.line l.at.rest.now (omega arith)
    (omega (arith, c.invariant.ensures.model.sizes.alike)) l.invariant)
    c.in_ok-stages.ensures)
