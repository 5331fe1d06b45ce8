use Rattle.dp_writer.proofs.RowCells.{some_cell}
use Rattle.dp_writer.proofs.rows.ChanceRow.has_equal_cells.Goals as goal

pub cell-first-requires-clause-place : goal.cell-first-requires-clause-place
cell-first-requires-clause-place c = some_cell c.args.model.now.model c.args.self c.invariant.ensures.model
