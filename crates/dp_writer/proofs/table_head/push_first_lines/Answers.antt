use Rattle.std.proofs.Common.{[], ◌∷◌, codes, ap, ◌∙◌}
use Rattle.std.specs.Fmt.{decimal}
use Rattle.dp_writer.specs.LimitedTexts.{added}
use Rattle.dp_writer.specs.TableText.{first_lines, name_words}
use Rattle.dp_writer.specs.WrittenLines.{Words, lines_text}
use Rattle.dp_writer.proofs.TableLines.{lines_behind}
use Rattle.dp_writer.proofs.table_head.push_first_lines.Goals as goal

pub returns : goal.returns
unfolding first_lines
returns c =
    let m = c.args.model.now in
    let s = m.model.scales in
    let title : Words = codes "decplan" ∷ codes "model" ∷ codes "1" ∷ [] in
    let repaired : Words = codes "repaired" ∷ decimal c.args.repaired ∷ [] in
    let discount : Words = codes "discount" ∷ decimal s.gain ∷ decimal s.discount ∷ [] in
    let scales : Words =
    codes "scales" ∷ decimal s.start ∷ decimal s.trans ∷ decimal s.obs ∷ decimal s.reward ∷ [] in
    let states : Words = codes "states" ∷ name_words m.names.states m.model.states in
    let t1 = c.push.new.self in
    let t2 = c.push_numbers_line.new.text in
    let t3 = c.push_numbers_line-2.new.text in
    let t4 = c.push_numbers_line-3.new.text in
    let t5 = c.push_names_line.new.text in
    let e2 = c.in_ok-push_numbers_line.ensures
    ∙ ap (λ n. added t1 (lines_text ((codes "repaired" ∷ decimal n ∷ []) ∷ []))) c.from.ensures in
    let e3 = rw c.scales-scales.ensures at c.in_ok-push_numbers_line-2.ensures in
    let e4 = rw c.scales-scales.ensures at c.in_ok-push_numbers_line-3.ensures in
    lines_behind (title ∷ []) (repaired ∷ discount ∷ scales ∷ states ∷ []) c.args.text.now t1 t5 c.in_ok-push.ensures
    (lines_behind (repaired ∷ []) (discount ∷ scales ∷ states ∷ []) t1 t2 t5 e2
    (lines_behind (discount ∷ []) (scales ∷ states ∷ []) t2 t3 t5 e3
    (lines_behind (scales ∷ []) (states ∷ []) t3 t4 t5 e4 c.in_ok-push_names_line.ensures)))
