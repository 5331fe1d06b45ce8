use Rattle.std.proofs.Common.{ℕ, ◌+◌, ◌∷◌, [], List, get_or, drop, map, sym, ap, ◌∙◌}
use Rattle.std.proofs.lemmas.List.{map-append}
use Rattle.std.proofs.lemmas.Result.{err_from_is_err_and}
use Rattle.dp_spec.specs.SharedRows.{shared_row_form}
use Rattle.dp_spec.specs.TextLines.{Item}
use Rattle.dp_lines.specs.Lines.{plain_form}
use Rattle.dp_lines.specs.Scanning.{front_of}
use Rattle.dp_cert.specs.PolicyGrammar.{first_of_counts, nexts_before, rows_of_form, shared_stages}
use Rattle.dp_lines.specs.Reading.{onto}
use Rattle.dp_lines.specs.Steps.{and_then}
use Rattle.dp_lines.proofs.TextParts.{more_fails, more_read}
use Rattle.dp_cert.proofs.RowParts.{some_dropped}
use Rattle.dp_cert.proofs.StageParts.{shared_stages_at}
use Rattle.dp_cert.proofs.shared_text.shared_stages.Goals as goal

pub returns-in_err-rows : goal.returns-in_err-rows
returns-in_err-rows c =
    let l = c.loop-stage in
    let a = c.args in
    let k = get_or a.counts.now l.stage 0 in
    let front = map (λ r. r.items) l.stages.items in
    let later = shared_stages a.actions a.observations (drop (l.stage + 1) a.counts.now) in
    let form = ap plain_form c.as_slice.ensures.value ∙ c.in_ok-ranges.ensures.ok
    ∙ ap (λ (l : List ℕ). shared_row_form a.actions (nexts_before a.observations l) (first_of_counts l))
    c.following.ensures in
    let p = err_from_is_err_and c.from_residual-in_err-rows.result c.from_residual-in_err-rows.ensures.1 in
    rw (p.1, p.2) (more_fails _ _ front (rows_of_form (plain_form c.as_slice.result.now) k)
    later l.at.line l.at.rest.now
    (shared_stages_at a.actions a.observations a.counts.now l.stage _ front l.at.line l.at.rest.now
    c.loop-stage-test.true l.invariant
    ∙ ap (λ (f : List Item). onto front (front_of (and_then (rows_of_form f k) later) l.at.line l.at.rest.now))
    (sym form))
    c.in_err-rows.ensures)

pub loop-stage-preserved : goal.loop-stage-preserved
loop-stage-preserved c =
    let l = c.loop-stage in
    let a = c.args in
    let k = get_or a.counts.now l.stage 0 in
    let front = map (λ r. r.items) l.stages.items in
    let later = shared_stages a.actions a.observations (drop (l.stage + 1) a.counts.now) in
    let form = ap plain_form c.as_slice.ensures.value ∙ c.in_ok-ranges.ensures.ok
    ∙ ap (λ (l : List ℕ). shared_row_form a.actions (nexts_before a.observations l) (first_of_counts l))
    c.following.ensures in
    let grown = ap (map (λ r. r.items)) c.in_ok-push.ensures.items
    ∙ map-append (λ r. r.items) l.stages.items (c.in_ok-rows.rows ∷ []) in
    rw grown (more_read _ front (rows_of_form (plain_form c.as_slice.result.now) k)
    later l.at.line c.in_ok-rows.behind.line
    l.at.rest.now c.in_ok-rows.behind.rest.now c.in_ok-rows.rows.items
    (shared_stages_at a.actions a.observations a.counts.now l.stage _ front l.at.line l.at.rest.now
    c.loop-stage-test.true l.invariant
    ∙ ap (λ (f : List Item). onto front (front_of (and_then (rows_of_form f k) later) l.at.line l.at.rest.now))
    (sym form))
    c.in_ok-rows.ensures)

pub row_ranges-requires-clause-following : goal.row_ranges-requires-clause-following
row_ranges-requires-clause-following c = rw c.following.ensures
    (some_dropped c.args.counts.now (c.loop-stage.stage + 1) c.requires.counts)
