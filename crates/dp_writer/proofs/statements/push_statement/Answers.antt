use Rattle.std.proofs.Common.{true, [], ◌∷◌, ap}
use Rattle.std.proofs.lemmas.Result.{on_ok_weaker}
use Rattle.dp_writer.specs.ModelRows.{chance_row, scale_of_table}
use Rattle.dp_writer.specs.WrittenLines.{words_text}
use Rattle.dp_writer.specs.WrittenModel.{row_words, statement_words, table_word}
use Rattle.dp_writer.proofs.Appending.{spelled}
use Rattle.dp_writer.proofs.WordTexts.{alone, line_ended, lines_behind}
use Rattle.dp_writer.proofs.statements.push_statement.Goals as goal

pub returns : goal.returns
returns c =
    let m = c.args.model.now.model in
    let a = c.args.action in
    let s = c.args.state in
    let table = c.args.table in
    let x = c.args.text.now in
    let x1 = c.push_fields.new.text in
    let x2 = c.push.new.self in
    let x3 = c.push_row.new.text in
    let words = statement_words m (table_word table) a s in
    let row = row_words (scale_of_table m table) (chance_row m table a s) in
    on_ok_weaker c.push_row.result
    (λ e. lines_behind x x2 x3 (words ∷ []) (row ∷ [])
    (line_ended x x1 x2 words
    (spelled x x1 _ _ (ap (λ w. words_text true (statement_words m w a s)) c.table_word.ensures)
    c.in_ok-push_fields.ensures) c.in_ok-push.ensures)
    (alone x2 x3 row e))
    c.push_row.ensures
