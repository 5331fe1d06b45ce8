use Rattle.std.proofs.Common.{◌≡◌, ◌^◌, false, ap, subst, ◌∙◌, arith}
use Rattle.std.specs.Prelude.{nat_le}
use Rattle.std.specs.List.{flat_map, range_with_len}
use Rattle.dp_spec.specs.Model.{joint_actions}
use Rattle.dp_meaning.specs.Scales.{scale_of}
use Rattle.dp_writer.specs.ModelRows.{action_rows, row_length, scale_of_table, table_rows}
use Rattle.dp_writer.specs.NeededScales.{AreNeeds}
use Rattle.dp_writer.proofs.RowCells.{some_in_table}
use Rattle.dp_writer.proofs.RowNeeds.{more_rows, not_written, rows_fail, written_where}
use Rattle.dp_writer.proofs.needs.has_writable_rows.Goals as goal

pub returns-in_default : goal.returns-in_default
returns-in_default c =
    let m = c.args.model.now.model in
    let table = c.args.table in
    not_written (scale_of_table m table) (row_length m table) (table_rows m table)
    (rows_fail (scale_of_table m table) (action_rows m table) (joint_actions m) c.loop-action.action
    (omega (arith, c.loop-action-test.true, c.joint_actions-action-end.ensures.is)) c.in_default.ensures)

pub loop-action-preserved : goal.loop-action-preserved
loop-action-preserved c =
    let m = c.args.model.now.model in
    more_rows (scale_of_table m c.args.table) (action_rows m c.args.table) c.loop-action.action
    (record { digits = 0; uniform = false }) c.loop-action.needs c.in-Some.more c.loop-action.invariant
    c.in-Some.ensures

pub has_scale-requires-clause-len : goal.has_scale-requires-clause-len
has_scale-requires-clause-len c =
    omega (
      arith,
      some_in_table c.args.model.now.model c.args.table c.invariant.ensures.model,
      c.row_length.ensures,
    )

pub returns : goal.returns
returns c =
    let m = c.args.model.now.model in
    let table = c.args.table in
    let needs = c.loop-action.needs in
    let all : c.loop-action.action ≡ joint_actions m =
    omega (arith, c.loop-action-test.false, c.loop-action.auto.action-end, c.joint_actions-action-end.ensures.is) in
    written_where (scale_of_table m table) (row_length m table) (table_rows m table) needs c.has_scale.result
    (subst (λ n. AreNeeds (scale_of_table m table) (flat_map (action_rows m table) (range_with_len 0 n))
    (record { digits = 0; uniform = false }) needs) all c.loop-action.invariant)
    (c.has_scale.ensures
    ∙ ap (λ n. nat_le (scale_of needs.digits needs.uniform n) (2 ^ 62)) c.row_length.ensures)
