use Rattle.std.proofs.Common.{◌≡◌, ℕ, ◌<◌, length, take, subst, arith}
use Rattle.std.proofs.Math.ListN.{length-set}
use Rattle.std.proofs.lemmas.List.{length-take-le, take_more_set}
use Rattle.dp_sim.specs.Acting.{AnswerPolicy}
use Rattle.dp_sim.proofs.Played.{one_played}
use Rattle.dp_sim.proofs.simulation.play.Goals as goal

pub loop-time-preserved : goal.loop-time-preserved
loop-time-preserved g c =
    let m = c.args.model.now.model in
    let steps = c.loop-time.steps in
    let t = c.loop-time.time in
    let step = c.step_drawn-step.result in
    let actors = c.args.actors.now in
    let early : t < length steps = omega (arith, c.loop-time-test.true, c.loop-time.auto.steps) in
    let counted : length (take t steps) ≡ t = length-take-le t steps (omega (arith, early)) in
    let long : length steps ≡ length c.loop-time.history =
    omega (arith, c.loop-time.auto.steps, c.loop-time.auto.history, c.requires.room) in
    rw (length-set, take_more_set steps t step early, c.step_drawn-step.ensures.left)
    (one_played g.F.Fn m (length steps) actors c.args.start (g.R.Rng.stream c.args.rng.now)
    (g.R.Rng.stream c.loop-time.rng) (take t steps) c.loop-time.state c.joint_action-action.result step
    c.loop-time.invariant (omega (arith, counted, early))
    (λ qs answer. c.joint_action-action.ensures.is qs
    (subst (λ (k : ℕ). AnswerPolicy g.F.Fn m k actors qs) long answer))
    (λ qs answer. c.joint_action-action.ensures.acted qs
    (subst (λ (k : ℕ). AnswerPolicy g.F.Fn m k actors qs) long answer))
    (record {
      drawn = c.step_drawn-step.ensures.drawn;
      action = c.step_drawn-step.ensures.action;
      next = c.step_drawn-step.ensures.next;
      seen = c.step_drawn-step.ensures.seen;
      next_possible = c.step_drawn-step.ensures.next_possible;
      seen_possible = c.step_drawn-step.ensures.seen_possible;
    }))
