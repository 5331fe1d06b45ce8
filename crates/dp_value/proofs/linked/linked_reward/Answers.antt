use Rattle.std.proofs.Common.{◌≡◌, suc, ◌≤◌, add-one, refl, arith}
use Rattle.dp_value.specs.WeightUpdates.{weights_of}
use Rattle.dp_value.proofs.LinkedParts.{none_from, skip_nothing}
use Rattle.dp_value.proofs.RewardSums.{may_add_states, reward_is}
use Rattle.dp_value.proofs.linked.linked_reward.Goals.{then-is_some, else-is_some}
use Rattle.dp_value.proofs.linked.linked_reward.Goals as goal

pub add_spans-total-requires : goal.add_spans-total-requires
add_spans-total-requires g c =
    let inside : suc c.loop-state.state ≤ c.args.model.now.model.states = omega arith in
    record {
      room = rw (c.loop-state.invariant, c.reward_after.ensures)
          (may_add_states _ _ _ _ _ c.requires.sizes _ c.requires.action (suc c.loop-state.state) inside);
    }

pub loop-state-preserved : goal.loop-state-preserved
loop-state-preserved g c =
    elim c.if-is_some.branch [
      | then-is_some w ↦ rw (
        add-one,
        w.total-is,
        w.add_spans-total.ensures,
        c.loop-state.invariant,
        w.reward_after.ensures,
      ) refl
      | else-is_some w ↦
          rw (add-one, w.total-is) (skip_nothing c.loop-state.state _ c.loop-state.total c.loop-state.invariant
          (none_from (g.A.Arith.operations c.args.arith.now) c.requires.zeros c.args.model.now.model c.args.rest
          (weights_of c.args.weights.now c.loop-state.state) c.args.action c.loop-state.state
          (c.is_some.ensures w.if-is_some.false)))
    ]

pub returns : goal.returns
returns g c = let all : c.loop-state.state ≡ c.args.model.now.model.states = omega arith in
    reward_is _ _ _ _ _ c.loop-state.state c.loop-state.total c.loop-state.invariant all
