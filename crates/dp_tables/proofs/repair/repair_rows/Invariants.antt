use Rattle.dp_tables.proofs.RowsLemmas.{RowsDone}
use Rattle.dp_tables.proofs.repair.repair_rows.Given as goal

abbrev pub invariant-loop-row : goal.invariant-loop-row
invariant-loop-row l = RowsDone l.scale l.rows l.len l.initial.cells l.row l.cells l.repaired
