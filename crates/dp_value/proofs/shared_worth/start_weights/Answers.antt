use Rattle.std.proofs.Common.{◌≡◌, ◌≢◌, ◌<◌, length, arith, ap, ◌∙◌, get_or-set_other, get_or-set_same, below_more}
use Rattle.dp_value.proofs.RowUpdates.{start_held, start_room}
use Rattle.dp_value.proofs.shared_worth.start_weights.Goals as goal

pub bounds-now-state : goal.bounds-now-state
bounds-now-state g c =
    let le = start_room _ _ _ _ _ c.requires.sizes _ c.requires.room in omega arith

pub loop-state-preserved : goal.loop-state-preserved
loop-state-preserved g c =
    let le = start_room _ _ _ _ _ c.requires.sizes _ c.requires.room in
    below_more _ _
    (λ k h. let ne : k ≢ c.loop-state.state = omega arith in rw get_or-set_other (c.loop-state.invariant k h))
    (let lt : c.loop-state.state < length c.loop-state.now = omega arith in
    rw get_or-set_same (c.start-in-loop-state.ensures ∙ ap
    (g.A.Arith.operations c.args.arith.now).start c.start.ensures))

pub returns : goal.returns
returns g c =
    let same : length c.loop-state.now ≡ length c.args.now.now = omega arith in
    record {
      weights = start_held (g.A.Arith.operations c.args.arith.now)
          _ c.args.model.now.model _ c.args.policy.now.rows c.requires.sizes c.loop-state.now
          (rw same c.requires.room)
          (λ s lt. c.loop-state.invariant s (omega (arith, lt, c.states-state-end.ensures.is)));
    }
