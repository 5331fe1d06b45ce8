use Rattle.std.proofs.Common.{[], ◌∷◌, codes, map}
use Rattle.std.specs.Fmt.{decimal, signed_decimal}
use Rattle.dp_writer.specs.ModelRows.{reward_row}
use Rattle.dp_writer.specs.WrittenLines.{Words}
use Rattle.dp_writer.proofs.Appending.{behind}
use Rattle.dp_writer.proofs.TableLines.{words_pushed}
use Rattle.dp_writer.proofs.table_rows.push_rewards_line.Goals as goal

pub returns : goal.returns
returns c =
    let m = c.args.model.now.model in
    let places : Words = decimal c.args.action ∷ decimal c.args.state ∷ decimal c.args.next ∷ [] in
    let cells : Words = map signed_decimal (reward_row m c.args.action c.args.state c.args.next) in
    let numbers = rw (c.from.ensures, c.from-2.ensures, c.from-3.ensures) at c.in_ok-push_numbers.ensures in
    behind c.args.text.now c.push.new.self c.push_row.new.text (codes "R") _ c.in_ok-push.ensures
    (words_pushed places cells c.push.new.self c.push_numbers.new.text c.push_row.new.text numbers
    c.in_ok-push_row.ensures)
