use Rattle.std.proofs.Common.{◌≡◌, ◌<◌, length, arith}
use Rattle.std.proofs.lemmas.Result.{err_from_is_err_and}
use Rattle.dp_meaning.specs.Statements.{axes_of}
use Rattle.dp_text.proofs.FieldLemmas.{none_read, field_read, field_fault, too_many, fields_end}
use Rattle.dp_text.proofs.parts.line_fields.Goals as goal

pub loop-field-init : goal.loop-field-init
loop-field-init c = rw (c.new-parts.ensures.items, c.from-rest.ensures) (none_read _ _)

pub loop-field-preserved : goal.loop-field-preserved
loop-field-preserved c =
    let count = c.axis_count.ensures.is c.args.header.now in
    let within : length c.loop-field.parts.items < length (axes_of c.args.header.now c.args.table) = omega arith in
    let len : c.len-in-Some.result ≡ length c.loop-field.parts.items = omega arith in
    let axis = rw len at c.axis_at.ensures in
    rw (c.in_ok-push.ensures.items, c.from-rest-in-Some.ensures, c.len-in-Some-2.ensures.is, c.pieces.ensures)
    (field_read c.loop-field.invariant c.in-Some.field c.axis_at.result.now c.in_ok-of_field.of_field
    c.in-Some.ensures.is c.in-Some.ensures.within within axis c.in_ok-of_field.ensures)

pub returns-in_err-of_field : goal.returns-in_err-of_field
returns-in_err-of_field c =
    let count = c.axis_count.ensures.is c.args.header.now in
    let within : length c.loop-field.parts.items < length (axes_of c.args.header.now c.args.table) = omega arith in
    let len : c.len-in-Some.result ≡ length c.loop-field.parts.items = omega arith in
    let axis = rw len at c.axis_at.ensures in
    let exit = err_from_is_err_and c.from_residual.result c.from_residual.ensures.1 in
    rw (exit.1, exit.2)
    (field_fault c.loop-field.invariant c.in-Some.field c.axis_at.result.now c.in_err-of_field.field-0.0
    c.in-Some.ensures.is within axis
    c.in_err-of_field.ensures)

pub returns-then-len-axis_count : goal.returns-then-len-axis_count
returns-then-len-axis_count c =
    let count = c.axis_count.ensures.is c.args.header.now in
    rw (c.fault.ensures, c.colon.ensures) (too_many c.loop-field.invariant c.in-Some.field c.in-Some.ensures.is
    (omega arith))

pub returns : goal.returns
returns c = rw (c.of.ensures, c.len-2.ensures.is, c.len-3.ensures.is)
    (fields_end c.loop-field.invariant c.in_default.ensures.is)
