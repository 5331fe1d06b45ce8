use Rattle.std.proofs.Common.{◌+◌, ◌∷◌, [], length, get_or, drop, map, sym, ap, ◌∙◌, arith}
use Rattle.std.proofs.lemmas.List.{map-append}
use Rattle.std.proofs.lemmas.Result.{err_from_is_err_and}
use Rattle.dp_spec.specs.SharedRows.{products}
use Rattle.dp_lines.specs.Scanning.{front_of}
use Rattle.dp_cert.specs.PolicyGrammar.{counts_grammar, shared_agents, shared_stages}
use Rattle.dp_lines.specs.Steps.{and_then}
use Rattle.dp_lines.proofs.TextParts.{more_fails, more_read, part_fails, part_read}
use Rattle.dp_policy.proofs.AgentParts.{action_some}
use Rattle.dp_cert.proofs.StageParts.{shared_agents_at}
use Rattle.dp_cert.proofs.shared_text.shared_agents.Goals as goal

pub shared_stages-requires-clause-actions : goal.shared_stages-requires-clause-actions
shared_stages-requires-clause-actions c =
    rw c.actions.ensures (action_some c.args.model.now.model c.loop-agent.agent c.invariant.ensures.model
    (omega arith))

pub returns-in_err-counted : goal.returns-in_err-counted
returns-in_err-counted c =
    let l = c.loop-agent in
    let m = c.args.model.now.model in
    let h = c.args.horizon in
    let cells = l.cells.items in
    let front = map (λ s. map (λ r. r.items) s.items) l.agents.items in
    let b = get_or m.actions l.agent 0 in
    let n = get_or m.observations l.agent 0 in
    let slice = c.as_slice-in-loop-agent.ensures.value in
    let at = shared_agents_at h l.agent cells m.actions m.observations _ front l.at.line l.at.rest.now
    (omega arith)
    (omega (arith, c.invariant.ensures.model.sizes.alike)) l.invariant.same in
    let p = err_from_is_err_and c.from_residual-in_err-counted.result
    c.from_residual-in_err-counted.ensures.1 in
    rw (p.1, p.2) (part_fails _ _ front (counts_grammar h l.agent cells)
    (λ counts. and_then (shared_stages b n counts)
    (shared_agents h (l.agent + 1) (products cells counts) (drop (l.agent + 1) m.actions)
    (drop (l.agent + 1) m.observations))) l.at.line l.at.rest.now at
    (rw slice at c.in_err-counted.ensures.gives))

pub returns-in_err-stages : goal.returns-in_err-stages
returns-in_err-stages c =
    let l = c.loop-agent in
    let m = c.args.model.now.model in
    let h = c.args.horizon in
    let cells = l.cells.items in
    let front = map (λ s. map (λ r. r.items) s.items) l.agents.items in
    let b = get_or m.actions l.agent 0 in
    let n = get_or m.observations l.agent 0 in
    let slice = c.as_slice-in-loop-agent.ensures.value in
    let at = shared_agents_at h l.agent cells m.actions m.observations _ front l.at.line l.at.rest.now
    (omega arith)
    (omega (arith, c.invariant.ensures.model.sizes.alike)) l.invariant.same in
    let xs = c.in_ok-counted.counted.counts.items in
    let counted = part_read _ front (counts_grammar h l.agent cells)
    (λ counts. and_then (shared_stages b n counts)
    (shared_agents h (l.agent + 1) (products cells counts) (drop (l.agent + 1) m.actions)
    (drop (l.agent + 1) m.observations))) l.at.line c.in_ok-counted.counts_end.line
    l.at.rest.now c.in_ok-counted.counts_end.rest.now xs at
    (ap (λ cs. front_of (counts_grammar h l.agent cs) l.at.line l.at.rest.now) (sym slice)
    ∙ c.in_ok-counted.ensures.gives) in
    let given = c.as_slice-in-loop-agent-2.ensures.value in
    let stages = ap (λ ks. front_of (shared_stages b n ks) c.in_ok-counted.counts_end.line
    c.in_ok-counted.counts_end.rest.now) (sym given) in
    let later = shared_agents h (l.agent + 1) (products cells xs) (drop (l.agent + 1) m.actions)
    (drop (l.agent + 1) m.observations) in
    let p = err_from_is_err_and c.from_residual-in_err-stages.result c.from_residual-in_err-stages.ensures.1 in
    rw (p.1, p.2) (more_fails _ _ front (shared_stages b n xs)
    later c.in_ok-counted.counts_end.line c.in_ok-counted.counts_end.rest.now
    counted (rw (c.actions.ensures, c.observations.ensures, given) at c.in_err-stages.ensures))

pub loop-agent-preserved : goal.loop-agent-preserved
loop-agent-preserved c =
    let l = c.loop-agent in
    let m = c.args.model.now.model in
    let h = c.args.horizon in
    let cells = l.cells.items in
    let front = map (λ s. map (λ r. r.items) s.items) l.agents.items in
    let b = get_or m.actions l.agent 0 in
    let n = get_or m.observations l.agent 0 in
    let slice = c.as_slice-in-loop-agent.ensures.value in
    let at = shared_agents_at h l.agent cells m.actions m.observations _ front l.at.line l.at.rest.now
    (omega arith)
    (omega (arith, c.invariant.ensures.model.sizes.alike)) l.invariant.same in
    let xs = c.in_ok-counted.counted.counts.items in
    let counted = part_read _ front (counts_grammar h l.agent cells)
    (λ counts. and_then (shared_stages b n counts)
    (shared_agents h (l.agent + 1) (products cells counts) (drop (l.agent + 1) m.actions)
    (drop (l.agent + 1) m.observations))) l.at.line c.in_ok-counted.counts_end.line
    l.at.rest.now c.in_ok-counted.counts_end.rest.now xs at
    (ap (λ cs. front_of (counts_grammar h l.agent cs) l.at.line l.at.rest.now) (sym slice)
    ∙ c.in_ok-counted.ensures.gives) in
    let given = c.as_slice-in-loop-agent-2.ensures.value in
    let stages = ap (λ ks. front_of (shared_stages b n ks) c.in_ok-counted.counts_end.line
    c.in_ok-counted.counts_end.rest.now) (sym given) in
    let later = shared_agents h (l.agent + 1) (products cells xs) (drop (l.agent + 1) m.actions)
    (drop (l.agent + 1) m.observations) in
    let grown = ap (map (λ s. map (λ r. r.items) s.items)) c.in_ok-push.ensures.items
    ∙ map-append (λ s. map (λ r. r.items) s.items) l.agents.items (c.in_ok-stages.stages ∷ []) in
    let made = c.in_ok-counted.ensures.cells ∙ ap (λ cs. products cs xs) slice in
    let same = more_read _ front (shared_stages b n xs) later c.in_ok-counted.counts_end.line
    c.in_ok-stages.behind.line
    c.in_ok-counted.counts_end.rest.now c.in_ok-stages.behind.rest.now
    (map (λ r. r.items) c.in_ok-stages.stages.items) counted
    (rw (c.actions.ensures, c.observations.ensures, given) at c.in_ok-stages.ensures) in
    record {
      same = rw (grown, made) same;
      count = c.in_ok-counted.ensures.alike ∙ ap length c.as_slice.ensures.value ∙ c.in_ok-ranges.ensures.count;
      few = c.in_ok-counted.ensures.few;
    }
