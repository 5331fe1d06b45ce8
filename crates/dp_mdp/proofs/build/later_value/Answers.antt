use Rattle.std.proofs.Common.{◌≡◌, suc, ◌≤◌, sym, ◌∙◌, arith, rules}
use Rattle.std.specs.Int.{w128}
use Rattle.std.proofs.lemmas.Int.{to_z-of_z}
use mir.Val.{SFits}
use Rattle.dp_mdp.proofs.RunningSums.{next_sum, same_sum, sum_fits}
use Rattle.dp_mdp.proofs.StepParts.{no_carry, later_part_fits, sum_is_later}
use Rattle.dp_mdp.proofs.build.later_value.Goals as goal
use Rattle.dp_mdp.proofs.build.later_value.Goals.{then-chance-ne0, else-chance-ne0}

pub overflow_add-total : goal.overflow_add-total
overflow_add-total g c =
    let more : suc c.loop-next.next ≤ c.args.model.now.model.states = omega arith in
    let fits : SFits w128 c.carried-total.result = search rules in
    sum_fits c.loop-next.next _ _ _ c.loop-next.invariant (to_z-of_z w128 _ fits ∙ c.carried-total.ensures)
    (later_part_fits _ _ _ _ _ c.requires.sizes c.args.action c.args.state (suc c.loop-next.next)
    c.requires.action c.requires.state more)

pub loop-next-preserved : goal.loop-next-preserved
loop-next-preserved g c =
    let more : suc c.loop-next.next ≤ c.args.model.now.model.states = omega arith in
    elim c.if-chance-ne0.branch [
      | then-chance-ne0 w ↦
          let fits : SFits w128 w.carried-total.result = search rules in
          next_sum c.loop-next.next _ _ _ _ w.total-is c.loop-next.invariant
          (to_z-of_z w128 _ fits ∙ w.carried-total.ensures)
          (later_part_fits _ _ _ _ _ c.requires.sizes c.args.action c.args.state (suc c.loop-next.next)
          c.requires.action c.requires.state more)
      | else-chance-ne0 w ↦
          let none : c.trans-chance.result ≡ 0 = omega arith in
          same_sum c.loop-next.next _ _ _ w.total-is c.loop-next.invariant
          (no_carry _ c.requires.sizes.zero _ _ (sym c.trans-chance.ensures ∙ none))
    ]

pub returns : goal.returns
returns g c = let all : c.loop-next.next ≡ c.args.model.now.model.states = omega arith in
    sum_is_later (g.A.Arith.operations c.args.arith.now) c.args.model.now.model c.args.rest c.args.action
    c.args.state c.loop-next.next _ c.loop-next.invariant all
