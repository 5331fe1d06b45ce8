use Rattle.std.proofs.Common.{map}
use Rattle.dp_writer.specs.ModelRows.{reward_row}
use Rattle.dp_writer.specs.WrittenModel.{reward_word}
use Rattle.dp_writer.proofs.WordTexts.{line_written}
use Rattle.dp_writer.proofs.rewards.push_matrix.Goals as goal

pub loop-next-preserved : goal.loop-next-preserved
loop-next-preserved c =
    let m = c.args.model.now.model in
    line_written (λ t. map (reward_word m.scales.reward) (reward_row m c.args.action c.args.state t)) c.loop-next.next
    c.args.text.now c.loop-next.text c.push_matrix_row.new.text c.push.new.self c.loop-next.invariant
    c.in_ok-push_matrix_row.ensures c.in_ok-push.ensures
