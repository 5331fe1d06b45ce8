use Rattle.std.proofs.Common.{◌≡◌, suc, ◌≤◌, sym, ◌∙◌, add-one, refl, arith}
use Rattle.dp_mdp.proofs.StepParts.{no_arrival, skip_nothing, state_part_fits, sum_is_reward}
use Rattle.dp_mdp.proofs.step_reward.state_reward.Goals as goal
use Rattle.dp_mdp.proofs.step_reward.state_reward.Goals.{then-chance-ne0, else-chance-ne0}

pub add_spans-total-requires : goal.add_spans-total-requires
add_spans-total-requires g c =
    let inside : suc c.loop-next.next ≤ c.args.model.now.model.states = omega arith in
    record {
      room = rw (c.loop-next.invariant, c.arrival_reward-part.ensures)
          (state_part_fits _ _ _ _ _ _ _ c.requires.sizes (suc c.loop-next.next) inside);
    }

pub loop-next-preserved : goal.loop-next-preserved
loop-next-preserved g c =
    elim c.if-chance-ne0.branch [
      | then-chance-ne0 w ↦ rw (
        add-one,
        w.total-is,
        w.add_spans-total.ensures,
        c.loop-next.invariant,
        w.arrival_reward-part.ensures,
      ) refl
      | else-chance-ne0 w ↦
          let none : c.trans-chance.result ≡ 0 = omega arith in
          rw (add-one, w.total-is) (skip_nothing c.loop-next.next _ c.loop-next.total c.loop-next.invariant
          (no_arrival _ c.requires.zero _ _ _ _ _ c.loop-next.next (sym c.trans-chance.ensures ∙ none)))
    ]

pub returns : goal.returns
returns g c = let all : c.loop-next.next ≡ c.args.model.now.model.states = omega arith in
    sum_is_reward _ _ _ _ _ _ c.loop-next.next c.loop-next.total c.loop-next.invariant all
