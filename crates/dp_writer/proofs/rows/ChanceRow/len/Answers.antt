use Rattle.std.proofs.Common.{sym, ◌∙◌}
use Rattle.dp_writer.specs.declared.rows.ChanceRow.TheVariants.{Start, Of}
use Rattle.dp_writer.proofs.RowCells.{length_of}
use Rattle.dp_writer.proofs.rows.ChanceRow.len.Goals as goal

pub returns-in-Start : goal.returns-in-Start
returns-in-Start c = rw c.in-Start.is (c.states.ensures.is ∙ sym (length_of c.args.model.now.model Start))

pub returns-in-Of : goal.returns-in-Of
returns-in-Of c =
    rw c.in-Of.is (c.row_length.ensures
    ∙ sym (length_of c.args.model.now.model (Of c.in-Of.table c.in-Of.action c.in-Of.state)))
