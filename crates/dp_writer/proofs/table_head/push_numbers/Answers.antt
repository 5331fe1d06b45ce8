use Rattle.std.proofs.Common.{false, get_or, map, refl, ap, arith}
use Rattle.std.specs.Fmt.{decimal}
use Rattle.std.proofs.lemmas.List.{take_all}
use Rattle.dp_writer.specs.WrittenLines.{words_text}
use Rattle.dp_writer.proofs.Appending.{spelled}
use Rattle.dp_writer.proofs.WordTexts.{item_written}
use Rattle.dp_writer.proofs.table_head.push_numbers.Goals as goal

pub loop-number-preserved : goal.loop-number-preserved
loop-number-preserved c =
    let numbers = c.args.numbers.now in
    let i = c.loop-number.number-index in
    item_written false decimal numbers i 0 (get_or numbers i 0) c.args.text.now c.loop-number.text c.push.new.self
    c.push_number.new.text (omega arith) refl c.loop-number.invariant c.in_ok-push.ensures c.in_ok-push_number.ensures

pub returns : goal.returns
returns c =
    let numbers = c.args.numbers.now in
    spelled c.args.text.now c.loop-number.text _ _
    (ap (λ l. words_text false (map decimal l)) (take_all c.loop-number.number-index numbers (omega arith)))
    c.loop-number.invariant
