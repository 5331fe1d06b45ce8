use Rattle.std.proofs.Common.{◌≡◌, [], ◌∷◌, take}
use Rattle.dp_meaning.specs.Cells.{statements_for}
use Rattle.dp_meaning.specs.Rows.{last_of_row, row_cells, statement_at}
use Rattle.dp_meaning.specs.Statements.{axes_of}
use Rattle.dp_tables.proofs.covering.last_of_row.Given as goal

abbrev pub invariant-loop-statement : goal.invariant-loop-statement
invariant-loop-statement l =
    l.last ≡ statement_at (last_of_row (axes_of l.text.text.header l.table)
    (statements_for l.table (take l.statement-index l.text.text.statements))
    (row_cells (l.row.action ∷ l.row.state ∷ []) l.len))
