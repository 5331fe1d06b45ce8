use Rattle.std.specs.List.{flat_map, range_with_len}
use Rattle.dp_writer.specs.WrittenModel.{reward_lines}
use Rattle.dp_writer.proofs.WordTexts.{lines_written}
use Rattle.dp_writer.proofs.rewards.push_rewards.Goals as goal

pub loop-action-preserved : goal.loop-action-preserved
loop-action-preserved c =
    let m = c.args.model.now.model in
    lines_written (λ a. flat_map (reward_lines m a) (range_with_len 0 m.states))
    c.loop-action.action c.args.text.now c.loop-action.text
    c.push_of_action.new.text c.loop-action.invariant c.in_ok-push_of_action.ensures
