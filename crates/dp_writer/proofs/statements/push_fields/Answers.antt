use Rattle.std.proofs.Common.{false, map, [], ◌∷◌, ◌++◌, sym, ap}
use Rattle.std.specs.Fmt.{decimal}
use Rattle.std.proofs.lemmas.Result.{on_ok_weaker}
use Rattle.dp_spec.specs.JointNumbers.{parts_of}
use Rattle.dp_writer.specs.WrittenLines.{words_text}
use Rattle.dp_writer.proofs.Appending.{behind, spelled}
use Rattle.dp_writer.proofs.WordTexts.{words_of_line}
use Rattle.dp_writer.proofs.statements.push_fields.Goals as goal

pub returns : goal.returns
returns c =
    let x = c.args.text.now in
    let x1 = c.push.new.self in
    let x2 = c.push_actions.new.text in
    let x3 = c.push-2.new.self in
    let x4 = c.push_number.new.text in
    let x5 = c.push-3.new.self in
    let word = c.args.word.now in
    let actions = map decimal (parts_of c.args.model.now.model.actions c.args.action) in
    let state = decimal c.args.state in
    on_ok_weaker c.push-3.result
    (λ e. spelled x x5 _ _ (sym (words_of_line word actions ((58 ∷ []) ∷ state ∷ (58 ∷ []) ∷ [])))
    (behind x x1 x5 word _ c.in_ok-push.ensures
    (behind x1 x2 x5 (words_text false actions) _ c.in_ok-push_actions.ensures
    (behind x2 x3 x5 (32 ∷ 58 ∷ 32 ∷ []) (state ++ 32 ∷ 58 ∷ []) c.in_ok-push-2.ensures
    (behind x3 x4 x5 state (32 ∷ 58 ∷ []) (spelled x3 x4 _ _ (ap decimal c.from.ensures) c.in_ok-push_number.ensures)
    e)))))
    c.push-3.ensures
