use Rattle.std.proofs.Common.{◌≡◌, ◌+◌, ◌≤◌, drop, length}
use Rattle.dp_meaning.specs.Cells.{statements_for}
use Rattle.dp_tables.proofs.statements.count_of.Given as goal

abbrev pub invariant-loop-statement : goal.invariant-loop-statement
invariant-loop-statement l = record {
  counted : l.count + length (statements_for l.table (drop l.statement-index l.statements))
      ≡ length (statements_for l.table l.statements);
  fits : l.count ≤ l.statement-index;
}
