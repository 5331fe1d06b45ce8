use Rattle.std.proofs.Common.{[], ◌∷◌, ◌++◌, codes, rules, ap, ◌∙◌}
use Rattle.std.proofs.lemmas.Int.{to_z-of_z}
use Rattle.std.specs.Int.{w128, w64}
use Rattle.dp_cli.specs.EpisodeTexts.{step_text}
use Rattle.dp_cli.specs.NumberTexts.{field_text, signed_field_text}
use Rattle.dp_cli.proofs.EpisodeLines.{six_pushed}
use Rattle.dp_cli.proofs.episodes.push_step.Goals as goal

pub returns : goal.returns
unfolding step_text
returns c =
    let step = c.args.step in
    let t1 = c.push_number.new.text.items in
    let t2 = c.push_number-2.new.text.items in
    let t3 = c.push_number-3.new.text.items in
    let t4 = c.push_number-4.new.text.items in
    six_pushed c.args.text.now.items t1 t2 t3 t4 c.push_signed.new.text.items c.push.new.self.items
    (field_text (codes "step ") c.args.time) (field_text (codes " action ") step.action)
    (field_text (codes " next ") step.next) (field_text (codes " seen ") step.seen)
    (signed_field_text (codes " reward ") step.reward) (10 ∷ [])
    c.in_ok-push_number.ensures
    (c.in_ok-push_number-2.ensures ∙ ap (λ n. t1 ++ field_text (codes " action ") n) c.from.ensures)
    (c.in_ok-push_number-3.ensures ∙ ap (λ n. t2 ++ field_text (codes " next ") n) c.from-2.ensures)
    (c.in_ok-push_number-4.ensures ∙ ap (λ n. t3 ++ field_text (codes " seen ") n) c.from-3.ensures)
    (c.in_ok-push_signed.ensures ∙ ap (λ z. t4 ++ signed_field_text (codes " reward ") z)
    (to_z-of_z w128 c.from-4.result (search (rules, c.from-4.type_inv)) ∙ c.from-4.ensures
    ∙ to_z-of_z w64 step.reward (search rules)))
    c.in_ok-push.ensures.items
