use Rattle.std.proofs.Common.{◌≡◌, drop}
use Rattle.std.specs.List.{list_any}
use Rattle.dp_meaning.specs.Cells.{statements_for}
use Rattle.dp_meaning.specs.Scales.{is_uniform}
use Rattle.dp_tables.proofs.statements.has_uniform.Given as goal

abbrev pub invariant-loop-statement : goal.invariant-loop-statement
invariant-loop-statement l =
    list_any (λ s. is_uniform s.value) (statements_for l.table (drop l.statement-index l.statements))
    ≡ list_any (λ s. is_uniform s.value) (statements_for l.table l.statements)
