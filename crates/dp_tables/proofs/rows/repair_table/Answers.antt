use Rattle.std.proofs.Common.{ap, ◌∙◌, sym}
use Rattle.std.specs.Prelude.{Err}
use Rattle.dp_tables.proofs.TableRowsLemmas.{rows_done, rows_failed, rows_fit}
use Rattle.dp_tables.proofs.rows.repair_table.Goals as goal

pub repair_rows-requires-clause-size : goal.repair_rows-requires-clause-size
repair_rows-requires-clause-size c =
    rows_fit c.args.text.now.text c.args.table c.scale.result c.row_len-len.result _ _ c.args.cells.now
    c.scale.ensures.is c.row_len-len.ensures.is c.joint_actions.ensures.is c.states.ensures.is c.requires

pub returns-in-Ok-clause-is : goal.returns-in-Ok-clause-is
returns-in-Ok-clause-is c =
    rows_done c.args.text.now.text c.args.table c.scale.result c.row_len-len.result _ _ c.args.cells.now
    c.scale.ensures.is c.row_len-len.ensures.is c.joint_actions.ensures.is c.states.ensures.is c.requires
    _ _ c.in-Ok.ensures.is c.args.text.now.end

pub returns-in-Err-clause-is : goal.returns-in-Err-clause-is
returns-in-Err-clause-is c =
    rows_failed c.args.text.now.text c.args.table c.scale.result c.row_len-len.result _ _ c.args.cells.now
    c.scale.ensures.is c.row_len-len.ensures.is c.joint_actions.ensures.is c.states.ensures.is c.requires
    c.args.cells.now _ c.in-Err.ensures.row c.in-Err.ensures.is c.args.text.now.end
    ∙ ap Err (sym c.fault_of_row.ensures)
