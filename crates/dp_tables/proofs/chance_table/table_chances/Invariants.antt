use Rattle.std.proofs.Common.{take}
use Rattle.dp_meaning.specs.Statements.{axes_of}
use Rattle.dp_meaning.specs.Cells.{statements_for}
use Rattle.dp_tables.proofs.ChanceTables.{AreChancesBy}
use Rattle.dp_tables.proofs.chance_table.table_chances.Given as goal

abbrev pub invariant-loop-statement : goal.invariant-loop-statement
invariant-loop-statement l =
    AreChancesBy l.scale (axes_of l.text.text.header l.table)
    (statements_for l.table (take l.statement-index l.statement-items)) l.cells.items
