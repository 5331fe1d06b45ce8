use Rattle.std.proofs.Common.{false, map, ap, arith}
use Rattle.std.specs.Fmt.{decimal}
use Rattle.std.proofs.lemmas.List.{take_all}
use Rattle.dp_writer.specs.ChanceRows.{cells_of}
use Rattle.dp_writer.specs.WrittenLines.{words_text}
use Rattle.dp_writer.proofs.Appending.{spelled}
use Rattle.dp_writer.proofs.WordTexts.{item_written}
use Rattle.dp_writer.proofs.table_head.push_cells.Goals as goal

pub loop-place-preserved : goal.loop-place-preserved
loop-place-preserved c =
    let cells = cells_of c.args.model.now.model c.args.row in
    item_written false decimal cells c.loop-place.place 0 c.cell.result c.args.text.now c.loop-place.text
    c.push.new.self c.push_number.new.text (omega arith) c.cell.ensures c.loop-place.invariant c.in_ok-push.ensures
    c.in_ok-push_number.ensures

pub returns : goal.returns
returns c =
    let cells = cells_of c.args.model.now.model c.args.row in
    spelled c.args.text.now c.loop-place.text _ _
    (ap (λ l. words_text false (map decimal l)) (take_all c.loop-place.place cells (omega arith)))
    c.loop-place.invariant
