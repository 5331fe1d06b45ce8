use Rattle.std.proofs.Common.{◌≡◌, drop}
use Rattle.std.specs.Prelude.{max}
use Rattle.std.specs.List.{fold}
use Rattle.dp_meaning.specs.Cells.{statements_for}
use Rattle.dp_meaning.specs.Scales.{digits_of_statements, digits_of_value}
use Rattle.dp_tables.proofs.statements.most_digits_of.Given as goal

abbrev pub invariant-loop-statement : goal.invariant-loop-statement
invariant-loop-statement l =
    fold (λ most s. max most (digits_of_value s.value)) l.most
    (statements_for l.table (drop l.statement-index l.statements))
    ≡ digits_of_statements (statements_for l.table l.statements)
