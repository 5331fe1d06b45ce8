use Rattle.dp_text.proofs.StatementLemmas.{StatementsRead}
use Rattle.dp_text.proofs.statements.read_statements.Given as goal

abbrev pub invariant-loop-place : goal.invariant-loop-place
invariant-loop-place l = StatementsRead l.header l.document.items l.first l.statements.items l.place
