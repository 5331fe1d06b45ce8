use Rattle.std.proofs.Common.{◌++◌}
use Rattle.std.proofs.lemmas.Result.{on_ok_weaker}
use Rattle.dp_writer.specs.declared.rows.ChanceTable.TheVariants.{Next, Seen}
use Rattle.dp_writer.specs.WrittenModel.{chance_lines, header_lines, lines_by_state, reward_lines, written_lines}
use Rattle.dp_writer.specs.WrittenModel.{written_model}
use Rattle.dp_writer.proofs.WordTexts.{lines_behind}
use Rattle.dp_writer.proofs.model_text.push_model.Goals as goal

pub returns : goal.returns
unfolding written_model written_lines
returns c =
    let m = c.args.model.now.model in
    let x = c.args.text.now in
    let x1 = c.push_header.new.text in
    let x2 = c.push_table.new.text in
    let x3 = c.push_table-2.new.text in
    let x4 = c.push_rewards.new.text in
    let rewards = lines_by_state m (reward_lines m) in
    let from_observations = lines_by_state m (chance_lines m Seen) ++ rewards in
    on_ok_weaker c.push_rewards.result
    (λ e. lines_behind x x1 x4 (header_lines c.args.model.now)
    (lines_by_state m (chance_lines m Next) ++ from_observations) c.in_ok-push_header.ensures
    (lines_behind x1 x2 x4 (lines_by_state m (chance_lines m Next)) from_observations c.in_ok-push_table.ensures
    (lines_behind x2 x3 x4 (lines_by_state m (chance_lines m Seen)) rewards c.in_ok-push_table-2.ensures e)))
    c.push_rewards.ensures
