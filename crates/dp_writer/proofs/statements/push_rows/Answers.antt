use Rattle.dp_writer.specs.WrittenModel.{chance_lines}
use Rattle.dp_writer.proofs.WordTexts.{lines_written}
use Rattle.dp_writer.proofs.statements.push_rows.Goals as goal

pub loop-state-preserved : goal.loop-state-preserved
loop-state-preserved c =
    let m = c.args.model.now.model in
    lines_written (chance_lines m c.args.table c.args.action) c.loop-state.state c.args.text.now c.loop-state.text
    c.push_statement.new.text c.loop-state.invariant c.in_ok-push_statement.ensures
