use Rattle.dp_writer.specs.TableText.{chances_lines}
use Rattle.dp_writer.proofs.WordTexts.{lines_written}
use Rattle.dp_writer.proofs.table_rows.push_chances_of.Goals as goal

pub loop-state-preserved : goal.loop-state-preserved
loop-state-preserved c =
    let m = c.args.model.now.model in
    lines_written (chances_lines m c.args.table c.args.action) c.loop-state.state
    c.args.text.now c.loop-state.text c.push_chances_line.new.text c.loop-state.invariant
    c.in_ok-push_chances_line.ensures
