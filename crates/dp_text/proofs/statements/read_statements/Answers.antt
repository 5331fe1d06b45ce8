use Rattle.std.proofs.Common.{arith}
use Rattle.std.proofs.lemmas.Result.{err_from_is_err_and}
use Rattle.dp_text.proofs.StatementLemmas.{statement_read, statement_fault, statements_end, none_read}
use Rattle.dp_text.proofs.statements.read_statements.Goals as goal

pub loop-place-init : goal.loop-place-init
loop-place-init c = rw c.new-statements.ensures.items (none_read _ _ _)

pub loop-place-preserved : goal.loop-place-preserved
loop-place-preserved c =
    rw c.in_ok-push.ensures.items
    (statement_read c.loop-place.invariant c.item.result c.in_ok-statement.statement c.item.ensures
    c.in_ok-statement.ensures)

pub returns-in_err-statement : goal.returns-in_err-statement
returns-in_err-statement c =
    let exit = err_from_is_err_and c.from_residual.result c.from_residual.ensures.1 in
    rw (exit.1, exit.2)
    (statement_fault c.loop-place.invariant c.item.result c.in_err-statement.field-0.0 c.item.ensures
    c.in_err-statement.ensures)

pub returns : goal.returns
returns c = rw c.of.ensures (statements_end c.loop-place.invariant (omega arith))
