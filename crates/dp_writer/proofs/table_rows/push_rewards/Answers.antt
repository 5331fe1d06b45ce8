use Rattle.std.specs.List.{flat_map, range_with_len}
use Rattle.dp_writer.specs.TableText.{rewards_lines}
use Rattle.dp_writer.proofs.WordTexts.{lines_written}
use Rattle.dp_writer.proofs.table_rows.push_rewards.Goals as goal

pub loop-action-preserved : goal.loop-action-preserved
loop-action-preserved c =
    let m = c.args.model.now.model in
    lines_written (λ a. flat_map (rewards_lines m a) (range_with_len 0 m.states)) c.loop-action.action
    c.args.text.now c.loop-action.text c.push_rewards_of.new.text c.loop-action.invariant
    c.in_ok-push_rewards_of.ensures
