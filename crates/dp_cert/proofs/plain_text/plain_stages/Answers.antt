use Rattle.std.proofs.Common.{◌+◌, ◌-◌, ◌∷◌, [], map, ap, ◌∙◌}
use Rattle.std.proofs.lemmas.List.{map-append}
use Rattle.std.proofs.lemmas.Result.{err_from_is_err_and}
use Rattle.dp_cert.specs.PolicyGrammar.{plain_stage, plain_stages}
use Rattle.dp_lines.proofs.TextParts.{more_fails, more_read}
use Rattle.dp_cert.proofs.StageParts.{plain_stages_at}
use Rattle.dp_cert.proofs.plain_text.plain_stages.Goals as goal

pub returns-in_err-rows : goal.returns-in_err-rows
returns-in_err-rows c =
    let l = c.loop-stage in
    let a = c.args in
    let front = map (λ r. r.items) l.stages.items in
    let p = err_from_is_err_and c.from_residual.result c.from_residual.ensures.1 in
    rw (p.1, p.2) (more_fails _ _ front (plain_stage a.actions a.observations a.horizon l.stage)
    (plain_stages a.actions a.observations a.horizon (l.stage + 1) (a.horizon - (l.stage + 1)))
    l.at.line l.at.rest.now
    (plain_stages_at a.actions a.observations a.horizon l.stage _ front l.at.line l.at.rest.now
    c.loop-stage-test.true l.invariant)
    c.in_err-rows.ensures)

pub loop-stage-preserved : goal.loop-stage-preserved
loop-stage-preserved c =
    let l = c.loop-stage in
    let a = c.args in
    let front = map (λ r. r.items) l.stages.items in
    let grown = ap (map (λ r. r.items)) c.in_ok-push.ensures.items
    ∙ map-append (λ r. r.items) l.stages.items (c.in_ok-rows.rows ∷ []) in
    rw grown (more_read _ front (plain_stage a.actions a.observations a.horizon l.stage)
    (plain_stages a.actions a.observations a.horizon (l.stage + 1) (a.horizon - (l.stage + 1)))
    l.at.line c.in_ok-rows.behind.line
    l.at.rest.now c.in_ok-rows.behind.rest.now c.in_ok-rows.rows.items
    (plain_stages_at a.actions a.observations a.horizon l.stage _ front l.at.line l.at.rest.now
    c.loop-stage-test.true l.invariant)
    c.in_ok-rows.ensures)
