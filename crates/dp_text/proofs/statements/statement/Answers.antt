use Rattle.std.proofs.Common.{◌≡◌, ◌≤◌, ◌<◌, length, drop, Err, refl}
use Rattle.std.proofs.lemmas.Result.{err_from_is_err_and}
use Rattle.dp_meaning.specs.Items.{after_colon, value_pieces}
use Rattle.dp_meaning.specs.Fields.{fields_of, all_parts}
use Rattle.dp_meaning.specs.Statements.{axes_of, least_fields, value_of}
use Rattle.dp_text.proofs.ReadingLemmas.{reads_same}
use Rattle.dp_text.proofs.StatementLemmas.{wrong_field, too_few_fields, right_statement, wrong_value}
use Rattle.dp_text.proofs.statements.statement.Goals as goal

pub returns-in_err-line : goal.returns-in_err-line
returns-in_err-line c =
    let exit = err_from_is_err_and c.from_residual.result c.from_residual.ensures.1 in
    let same : all_parts (axes_of c.args.header.now c.args.table) (fields_of (after_colon c.args.item.now)).fields
    ≡ all_parts (axes_of c.args.header.now c.args.table) (fields_of c.after_colon.result).fields =
    rw c.after_colon.ensures refl in
    rw (exit.1, exit.2)
    (wrong_field _ _ _ c.in_err-line.field-0.0 (reads_same (Err c.in_err-line.field-0.0) same c.in_err-line.ensures))

pub returns-then-count-least_fields : goal.returns-then-count-least_fields
returns-then-count-least_fields c =
    let read = rw c.after_colon.ensures at c.in_ok-line.ensures in
    let few : length c.in_ok-line.line.parts < least_fields c.args.table =
    rw (c.as_slice-count.ensures, c.least_fields.ensures) at c.if-count-least_fields.true in
    rw (c.fault.ensures, c.ends.ensures) (too_few_fields _ _ _ c.in_ok-line.line.parts read.0 few)

pub returns : goal.returns
returns c =
    let read = rw c.after_colon.ensures at c.in_ok-line.ensures in
    let enough : least_fields c.args.table ≤ length c.in_ok-line.line.parts =
    rw (c.as_slice-count.ensures, c.least_fields.ensures) at c.if-count-least_fields.false in
    let value = rw (
      c.as_slice-count.ensures,
      c.next.ensures,
      c.from-rest.ensures,
      c.value.ensures,
    ) at c.in_ok-value.ensures in
    rw c.at.ensures (right_statement _ _ _ c.in_ok-line.line.parts c.in_ok-line.line.taken read.0 enough read.2 read.3
    c.in_ok-value.value value)

pub returns-in_err-value : goal.returns-in_err-value
returns-in_err-value c =
    let exit = err_from_is_err_and c.from_residual-in_err-value.result c.from_residual-in_err-value.ensures.1 in
    let read = rw c.after_colon.ensures at c.in_ok-line.ensures in
    let enough : least_fields c.args.table ≤ length c.in_ok-line.line.parts =
    rw (c.as_slice-count.ensures, c.least_fields.ensures) at c.if-count-least_fields.false in
    let same : value_of c.args.table (drop (length c.in_ok-line.line.parts) (axes_of c.args.header.now c.args.table))
    c.args.item.now.next
    (drop c.in_ok-line.line.taken (value_pieces c.args.item.now))
    ≡ value_of c.args.table (drop (length c.as_slice-count.result.now) (axes_of c.args.header.now c.args.table))
    c.next.result c.from-rest.result =
    rw (c.as_slice-count.ensures, c.next.ensures, c.from-rest.ensures, c.value.ensures) refl in
    rw (exit.1, exit.2)
    (wrong_value _ _ _ c.in_ok-line.line.parts c.in_ok-line.line.taken read.0 enough read.2 read.3
    c.in_err-value.field-0.0
    (reads_same (Err c.in_err-value.field-0.0) same c.in_err-value.ensures))
