use Rattle.std.proofs.Common.{[], ◌∷◌, ◌++◌, ap, map, ◌∙◌}
use Rattle.std.specs.Fmt.{decimal}
use Rattle.dp_writer.specs.LimitedTexts.{added}
use Rattle.dp_writer.specs.ModelRows.{chance_row}
use Rattle.dp_writer.specs.TableText.{chances_word}
use Rattle.dp_writer.specs.WrittenLines.{Words}
use Rattle.dp_writer.proofs.TableLines.{line_pushed, words_pushed}
use Rattle.dp_writer.proofs.table_rows.push_chances_line.Goals as goal

pub returns : goal.returns
returns c =
    let m = c.args.model.now.model in
    let places : Words = decimal c.args.action ∷ decimal c.args.state ∷ [] in
    let cells : Words = map decimal (chance_row m c.args.table c.args.action c.args.state) in
    let word = c.in_ok-push.ensures ∙ ap (added c.args.text.now) c.chances_word.ensures in
    let numbers = rw (c.from.ensures, c.from-2.ensures) at c.in_ok-push_numbers.ensures in
    line_pushed (chances_word c.args.table) (places ++ cells) c.args.text.now c.push.new.self c.push_cells.new.text
    c.push-2.new.self word
    (words_pushed places cells c.push.new.self c.push_numbers.new.text c.push_cells.new.text numbers
    c.in_ok-push_cells.ensures)
    c.in_ok-push-2.ensures
