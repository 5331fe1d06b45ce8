use Rattle.dp_writer.specs.TableText.{rewards_line}
use Rattle.dp_writer.proofs.WordTexts.{line_written}
use Rattle.dp_writer.proofs.table_rows.push_matrix.Goals as goal

pub loop-next-preserved : goal.loop-next-preserved
loop-next-preserved c =
    line_written (rewards_line c.args.model.now.model c.args.action c.args.state) c.loop-next.next c.args.text.now
    c.loop-next.text c.push_rewards_line.new.text c.push.new.self c.loop-next.invariant
    c.in_ok-push_rewards_line.ensures c.in_ok-push.ensures
