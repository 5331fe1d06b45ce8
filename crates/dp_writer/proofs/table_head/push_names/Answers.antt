use Rattle.std.proofs.Common.{◌≡◌, ◌<◌, false, get_or, map, sym, ap, ◌∙◌, arith}
use Rattle.std.specs.List.{range_with_len}
use Rattle.std.proofs.lemmas.List.{take_all}
use Rattle.std.proofs.lemmas.List.FromFn.{get_or-range_with_len, length-range_with_len}
use Rattle.dp_writer.specs.GivenLists.{count_in, names_in}
use Rattle.dp_writer.specs.TableText.{name_word}
use Rattle.dp_writer.specs.WrittenLines.{words_text}
use Rattle.dp_writer.proofs.Appending.{spelled}
use Rattle.dp_writer.proofs.WordTexts.{item_written}
use Rattle.dp_writer.proofs.table_head.push_names.Goals as goal

pub loop-place-preserved : goal.loop-place-preserved
loop-place-preserved c =
    let n = count_in c.args.model.now c.args.list in
    let i = c.loop-place.place in
    let early : i < count_in c.args.model.now c.args.list = omega arith in
    let at : get_or (range_with_len 0 n) i 0 ≡ i = get_or-range_with_len 0 n i 0 early ∙ omega arith in
    item_written false (name_word (names_in c.args.model.now.names c.args.list)) (range_with_len 0 n) i 0 i
    c.args.text.now c.loop-place.text c.push.new.self c.push_name.new.text
    (omega (arith, early, length-range_with_len 0 n)) (sym at) c.loop-place.invariant c.in_ok-push.ensures
    c.in_ok-push_name.ensures

pub returns : goal.returns
returns c =
    let n = count_in c.args.model.now c.args.list in
    spelled c.args.text.now c.loop-place.text _ _
    (ap (λ l. words_text false (map (name_word (names_in c.args.model.now.names c.args.list)) l))
    (take_all c.loop-place.place (range_with_len 0 n) (omega (arith, length-range_with_len 0 n))))
    c.loop-place.invariant
