use Rattle.dp_writer.specs.WrittenModel.{reward_lines}
use Rattle.dp_writer.proofs.WordTexts.{lines_written}
use Rattle.dp_writer.proofs.rewards.push_of_action.Goals as goal

pub loop-state-preserved : goal.loop-state-preserved
loop-state-preserved c =
    let m = c.args.model.now.model in
    lines_written (reward_lines m c.args.action) c.loop-state.state c.args.text.now c.loop-state.text
    c.push_of_state.new.text c.loop-state.invariant c.in_ok-push_of_state.ensures
