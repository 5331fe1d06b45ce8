use Rattle.std.proofs.Common.{◌+◌, ◌-◌}
use Rattle.std.proofs.lemmas.Result.{err_from_is_err_and}
use Rattle.dp_lines.specs.Lines.{plain_form}
use Rattle.dp_cert.specs.PolicyGrammar.{row_line, rows_of_form}
use Rattle.dp_lines.proofs.TextParts.{more_fails, more_read}
use Rattle.dp_cert.proofs.StageParts.{rows_at}
use Rattle.dp_cert.proofs.shared_text.shared_rows.Goals as goal

pub returns-in_err-one : goal.returns-in_err-one
returns-in_err-one c =
    let l = c.loop-row in
    let form = plain_form c.args.ranges.now in
    let p = err_from_is_err_and c.from_residual.result c.from_residual.ensures.1 in
    rw (p.1, p.2) (more_fails _ _ l.rows.items (row_line form) (rows_of_form form (c.args.count - (l._row + 1)))
    l.at.line l.at.rest.now
    (rows_at form c.args.count l._row _ l.rows.items l.at.line l.at.rest.now c.loop-row-test.true l.invariant)
    c.in_err-one.ensures)

pub loop-row-preserved : goal.loop-row-preserved
loop-row-preserved c =
    let l = c.loop-row in
    let form = plain_form c.args.ranges.now in
    rw c.in_ok-push.ensures.items (more_read _ l.rows.items (row_line form)
    (rows_of_form form (c.args.count - (l._row + 1))) l.at.line
    c.in_ok-one.behind.line l.at.rest.now c.in_ok-one.behind.rest.now c.in_ok-one.one
    (rows_at form c.args.count l._row _ l.rows.items l.at.line l.at.rest.now c.loop-row-test.true l.invariant)
    c.in_ok-one.ensures)
