use Rattle.std.proofs.Common.{◌≡◌, ◌-◌, ◌++◌, ap, sym, ◌∙◌, arith}
use Rattle.std.proofs.lemmas.List.{append-nil}
use Rattle.dp_spec.specs.SharedPolicy.{unfolded}
use Rattle.dp_sim.specs.Acting.{AnswerPolicy}
use Rattle.dp_cli.specs.EpisodeTexts.{episode_text, episodes_text}
use Rattle.dp_cli.proofs.EpisodeLines.{episode_pushed}
use Rattle.dp_cli.proofs.episodes.played.Goals as goal

pub episode-requires : goal.episode-requires
episode-requires g c =
    record { policy = (unfolded c.args.policy.now.rows, rw c.horizon.ensures.is c.requires) }

pub loop-number-preserved : goal.loop-number-preserved
loop-number-preserved g c =
    let m = c.args.model.now.model in
    let p = c.args.policy.now in
    let qs = unfolded p.rows in
    let here = c.loop-number.text.items in
    let answer : AnswerPolicy g.F.Fn m c.horizon.result c.args.actors.now qs = rw c.horizon.ensures.is c.requires in
    let drawn = rw c.horizon.ensures.is at (c.in_ok-trace.ensures.drawn qs answer) in
    let left = rw c.horizon.ensures.is at c.in_ok-trace.ensures.left in
    episode_pushed m p.horizon qs c.loop-number.number c.args.episodes (g.R.Rng.stream c.loop-number.rng)
    (g.R.Rng.stream c.episode.new.rng) _ here c.push_episode.new.text.items c.loop-number-test.true
    c.loop-number.invariant
    (c.in_ok-push_episode.ensures ∙ ap (λ e. here ++ episode_text c.loop-number.number e) drawn) left

pub returns : goal.returns
returns g c =
    let all : c.args.episodes - c.loop-number.number ≡ 0 = omega (arith, c.loop-number-test.false) in
    let p = c.args.policy.now in
    sym (c.loop-number.invariant
    ∙ ap (λ left. c.loop-number.text.items ++ episodes_text c.args.model.now.model p.horizon (unfolded p.rows)
    c.loop-number.number left (g.R.Rng.stream c.loop-number.rng)) all
    ∙ append-nil c.loop-number.text.items)
