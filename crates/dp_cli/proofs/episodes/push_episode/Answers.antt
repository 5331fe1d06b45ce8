use Rattle.std.proofs.Common.{[], ◌∷◌, ◌++◌, codes, rules, ap, ◌∙◌}
use Rattle.std.proofs.lemmas.Int.{to_z-of_z}
use Rattle.std.specs.Int.{w128}
use Rattle.dp_sim.specs.Traces.{Episode}
use Rattle.dp_cli.specs.EpisodeTexts.{episode_text, steps_text}
use Rattle.dp_cli.specs.NumberTexts.{field_text, signed_field_text}
use Rattle.dp_cli.proofs.EpisodeLines.{six_pushed}
use Rattle.dp_cli.proofs.episodes.push_episode.Goals as goal

pub returns : goal.returns
unfolding episode_text
returns c =
    let trace = c.args.trace.now in
    let t0 = c.args.text.now.items in
    let t1 = c.push_number.new.text.items in
    let t3 = c.push.new.self.items in
    let t4 = c.push_steps.new.text.items in
    six_pushed t0 t1 c.push_number-2.new.text.items t3 t4 c.push_signed.new.text.items c.push-2.new.self.items
    (field_text (codes "episode ") c.args.number) (field_text (codes " start ") trace.start) (10 ∷ [])
    (steps_text 0 trace.steps) (signed_field_text (codes "total ") trace.total) (10 ∷ [])
    (c.in_ok-push_number.ensures ∙ ap (λ n. t0 ++ field_text (codes "episode ") n) c.from.ensures)
    (c.in_ok-push_number-2.ensures ∙ ap (λ n. t1 ++ field_text (codes " start ") n)
    (c.from-2.ensures ∙ ap (λ (e : Episode). e.start) c.trace.view_is))
    c.in_ok-push.ensures.items
    (c.in_ok-push_steps.ensures ∙ ap (λ steps. t3 ++ steps_text 0 steps)
    (c.as_slice.ensures ∙ ap (λ (e : Episode). e.steps) c.trace.view_is))
    (c.in_ok-push_signed.ensures ∙ ap (λ z. t4 ++ signed_field_text (codes "total ") z)
    (to_z-of_z w128 c.trace.inside.total (search rules) ∙ ap (λ (e : Episode). e.total) c.trace.view_is))
    c.in_ok-push-2.ensures.items
