use Rattle.std.proofs.Common.{ℕ, rules, ap, ◌∙◌}
use Rattle.std.proofs.lemmas.Int.{to_z-of_z}
use Rattle.std.specs.Int.{w64}
use Rattle.rand_core.specs.Stream.{Stream, next_u64}
use Rattle.dp_sim.specs.Episode.{next_drawn, seen_drawn}
use Rattle.dp_sim.proofs.RowDraws.{step_is}
use Rattle.dp_sim.proofs.simulation.step_drawn.Goals as goal

pub returns-clause-drawn : goal.returns-clause-drawn
returns-clause-drawn g c =
    let m = c.args.model.now.model in
    let a = c.args.action in
    let t = c.next_drawn-next.result in
    let word = ap (λ (p : ℕ × Stream). p.0) c.next_u64.ensures in
    let rest = ap (λ (p : ℕ × Stream). p.1) c.next_u64.ensures in
    let second = ap (λ (p : ℕ × Stream). p.0) c.next_u64-2.ensures ∙ ap (λ s. (next_u64 s).0) rest in
    step_is m a c.args.state (next_u64 (g.R.Rng.stream c.args.rng.now)).0
    (next_u64 (next_u64 (g.R.Rng.stream c.args.rng.now)).1).0 t c.seen_drawn-seen.result _
    (c.next_drawn-next.ensures.is ∙ ap (next_drawn m a c.args.state) word)
    (c.seen_drawn-seen.ensures.is ∙ ap (seen_drawn m a t) second)
    (to_z-of_z w64 c.reward.result (search (rules, c.reward.type_inv)) ∙ c.reward.ensures)
