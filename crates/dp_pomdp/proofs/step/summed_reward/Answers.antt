use Rattle.std.proofs.Common.{◌≡◌, ◌<◌, add-one, ◌∙◌, arith, rules}
use Rattle.std.specs.Int.{w128}
use Rattle.std.proofs.lemmas.Int.{ints, to_z-of_z}
use mir.Val.{SFits}
use Rattle.dp_pomdp.proofs.Rewards.{one_more_reward, reward_allowed, reward_room, rewards_are_all, skip_reward}
use Rattle.dp_pomdp.proofs.step.summed_reward.Goals as goal
use Rattle.dp_pomdp.proofs.step.summed_reward.Goals.{then-weight-ne0, else-weight-ne0}

pub state_reward-requires-clause-sizes : goal.state_reward-requires-clause-sizes
state_reward-requires-clause-sizes g c =
    let inside : c.loop-state.state < c.args.model.now.model.states = omega arith in
    reward_allowed _ _ _ _ _ c.requires.sizes _ c.requires.action c.loop-state.state inside

pub add_spans-total-requires : goal.add_spans-total-requires
add_spans-total-requires g c =
    let inside : c.loop-state.state < c.args.model.now.model.states = omega arith in
    record {
      room =
          reward_room _ _ _ _ _ c.requires.sizes _ c.requires.action c.loop-state.state _ _ inside
          c.loop-state.invariant c.state_reward.ensures;
    }

pub loop-state-preserved : goal.loop-state-preserved
loop-state-preserved g c =
    let inside : c.loop-state.state < c.args.model.now.model.states = omega arith in
    elim c.if-weight-ne0.branch [
      | then-weight-ne0 w ↦
          rw add-one
          (w.total-is ∙ w.add_spans-total.ensures
          ∙ one_more_reward _ _ _ _ _ c.loop-state.state _ _ c.loop-state.invariant w.state_reward.ensures)
      | else-weight-ne0 w ↦
          rw add-one
          (w.total-is
          ∙ skip_reward _ _ _ _ _ c.requires.sizes _ c.requires.action c.loop-state.state _ inside
          (search (arith, ints, w.if-weight-ne0.false)) c.loop-state.invariant)
    ]

pub returns : goal.returns
returns g c =
    let all : c.loop-state.state ≡ c.args.model.now.model.states = omega arith in
    let fits : SFits w128 c.loop-state.total.high = search rules in
    to_z-of_z w128 _ fits
    ∙ rewards_are_all _ _ _ _ _ c.requires.sizes _ c.requires.action c.loop-state.state _ all
    c.loop-state.invariant
