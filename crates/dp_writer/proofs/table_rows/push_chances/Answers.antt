use Rattle.std.specs.List.{flat_map, range_with_len}
use Rattle.dp_writer.specs.TableText.{chances_lines}
use Rattle.dp_writer.proofs.WordTexts.{lines_written}
use Rattle.dp_writer.proofs.table_rows.push_chances.Goals as goal

pub loop-action-preserved : goal.loop-action-preserved
loop-action-preserved c =
    let m = c.args.model.now.model in
    lines_written (λ a. flat_map (chances_lines m c.args.table a) (range_with_len 0 m.states)) c.loop-action.action
    c.args.text.now c.loop-action.text c.push_chances_of.new.text c.loop-action.invariant
    c.in_ok-push_chances_of.ensures
