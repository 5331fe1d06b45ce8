use Rattle.dp_writer.specs.TableText.{rewards_lines}
use Rattle.dp_writer.proofs.WordTexts.{lines_written}
use Rattle.dp_writer.proofs.table_rows.push_rewards_of.Goals as goal

pub loop-state-preserved : goal.loop-state-preserved
loop-state-preserved c =
    let m = c.args.model.now.model in
    lines_written (rewards_lines m c.args.action) c.loop-state.state
    c.args.text.now c.loop-state.text c.push_rewards_lines.new.text c.loop-state.invariant
    c.in_ok-push_rewards_lines.ensures
