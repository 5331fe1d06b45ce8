use Rattle.std.proofs.Common.{true, map, [], ◌∷◌, sym, ap, ◌∙◌}
use Rattle.std.proofs.lemmas.Result.{on_ok_weaker}
use Rattle.dp_writer.specs.ChanceRows.{cells_of, scale_of_row}
use Rattle.dp_writer.specs.WrittenLines.{line_text, words_text}
use Rattle.dp_writer.specs.WrittenModel.{chance_word}
use Rattle.dp_writer.proofs.Appending.{behind, spelled}
use Rattle.dp_writer.proofs.RowTexts.{uniform_row, row_of_decimals}
use Rattle.dp_writer.proofs.row_text.push_row.Goals as goal

pub returns-then-has_equal_cells : goal.returns-then-has_equal_cells
returns-then-has_equal_cells c =
    let m = c.args.model.now.model in
    on_ok_weaker c.push.result
    (spelled c.args.text.now c.push.new.self _ _
    (ap line_text (sym (uniform_row (scale_of_row m c.args.row) (cells_of m c.args.row)
    (sym c.has_equal_cells.ensures ∙ c.if-has_equal_cells.true)))))
    c.push.ensures

pub returns : goal.returns
returns c =
    let m = c.args.model.now.model in
    let words = map (chance_word (scale_of_row m c.args.row)) (cells_of m c.args.row) in
    on_ok_weaker c.push-2.result
    (λ e. spelled c.args.text.now c.push-2.new.self _ _
    (ap line_text (sym (row_of_decimals (scale_of_row m c.args.row) (cells_of m c.args.row)
    (sym c.has_equal_cells.ensures ∙ c.if-has_equal_cells.false))))
    (behind c.args.text.now c.push_chances.new.text c.push-2.new.self (words_text true words) (10 ∷ [])
    c.in_ok-push_chances.ensures e))
    c.push-2.ensures
