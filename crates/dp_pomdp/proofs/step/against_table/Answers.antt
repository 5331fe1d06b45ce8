use Rattle.std.proofs.Common.{◌≡◌, suc, ◌≤◌, refl, ◌∙◌, arith, rules}
use Rattle.std.specs.Int.{w128}
use Rattle.std.proofs.lemmas.Int.{to_z-of_z}
use mir.Val.{SFits}
use Rattle.dp_mdp.proofs.RunningSums.{next_sum, sum_fits}
use Rattle.dp_pomdp.proofs.Steps.{against_part_fits, sum_is_against}
use Rattle.dp_pomdp.proofs.step.against_table.Goals as goal

pub overflow_add-total : goal.overflow_add-total
overflow_add-total g c =
    let more : suc c.loop-state.state ≤ c.args.model.now.model.states = omega arith in
    let fits : SFits w128 c.table_part-total.result = search rules in
    sum_fits c.loop-state.state _ _ _ c.loop-state.invariant
    (to_z-of_z w128 _ fits ∙ c.table_part-total.ensures)
    (against_part_fits _ _ _ _ _ c.requires.sizes (suc c.loop-state.state) more)

pub loop-state-preserved : goal.loop-state-preserved
loop-state-preserved g c =
    let more : suc c.loop-state.state ≤ c.args.model.now.model.states = omega arith in
    let fits : SFits w128 c.table_part-total.result = search rules in
    next_sum c.loop-state.state _ _ _ _ refl c.loop-state.invariant
    (to_z-of_z w128 _ fits ∙ c.table_part-total.ensures)
    (against_part_fits _ _ _ _ _ c.requires.sizes (suc c.loop-state.state) more)

pub returns : goal.returns
returns g c = let all : c.loop-state.state ≡ c.args.model.now.model.states = omega arith in
    sum_is_against (g.A.Arith.operations c.args.arith.now) c.args.model.now.model c.args.rest _
    c.loop-state.state
    _ c.loop-state.invariant all
