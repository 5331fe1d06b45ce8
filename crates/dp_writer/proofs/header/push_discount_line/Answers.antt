use Rattle.std.proofs.Common.{[], ◌∷◌, ◌++◌, sym, ap, ◌∙◌, append_assoc}
use Rattle.std.specs.Prelude.{codes}
use Rattle.std.proofs.lemmas.List.{append-nil}
use Rattle.std.proofs.lemmas.Result.{on_ok_weaker}
use Rattle.dp_spec.specs.declared.scales.Scales.{Scales}
use Rattle.dp_writer.specs.WrittenModel.{chance_word}
use Rattle.dp_writer.proofs.Appending.{behind, spelled}
use Rattle.dp_writer.proofs.header.push_discount_line.Goals as goal

pub returns : goal.returns
returns c =
    let scales = c.args.model.now.model.scales in
    let x = c.args.text.now in
    let x1 = c.push.new.self in
    let x2 = c.push_chance.new.text in
    let x3 = c.push-2.new.self in
    let word = chance_word scales.discount scales.gain in
    let rest = codes "values: reward\n" in
    on_ok_weaker c.push-2.result
    (λ e. spelled x x3 _ _
    (ap (λ l. codes "discount: " ++ l) (sym (ap (λ l. (l ++ 10 ∷ []) ++ rest) (append-nil word)
    ∙ append_assoc word (10 ∷ []) rest)))
    (behind x x1 x3 (codes "discount: ") (word ++ 10 ∷ rest) c.in_ok-push.ensures
    (behind x1 x2 x3 word (10 ∷ rest)
    (spelled x1 x2 _ _ (ap (λ (s : Scales). chance_word s.discount s.gain) c.scales-scales.ensures)
    c.in_ok-push_chance.ensures)
    e)))
    c.push-2.ensures
