use Rattle.std.proofs.Common.{◌≡◌, suc, ◌≤◌, length, refl, ap, ◌∙◌, arith, rules}
use Rattle.std.specs.Int.{w128}
use Rattle.std.proofs.lemmas.Int.{to_z-of_z}
use mir.Val.{SFits}
use Rattle.dp_base.specs.Sums.{int_sum}
use Rattle.dp_mdp.proofs.RunningSums.{next_sum, sum_fits, times_fits, times_is}
use Rattle.dp_pomdp.specs.Looking.{weighed_part}
use Rattle.dp_pomdp.proofs.step.weighed.Goals as goal

pub overflow_add-total : goal.overflow_add-total
overflow_add-total c =
    let more : suc c.loop-state.state ≤ length c.args.rewards.now = omega arith in
    let fits : SFits w128 c.weighed_part-total.result = search rules in
    sum_fits c.loop-state.state (weighed_part c.args.rewards.now c.args.weights.now) _ _ c.loop-state.invariant
    (to_z-of_z w128 _ fits ∙ c.weighed_part-total.ensures) (c.requires.sums (suc c.loop-state.state) more)

pub loop-state-preserved : goal.loop-state-preserved
loop-state-preserved c =
    let more : suc c.loop-state.state ≤ length c.args.rewards.now = omega arith in
    let fits : SFits w128 c.weighed_part-total.result = search rules in
    next_sum c.loop-state.state (weighed_part c.args.rewards.now c.args.weights.now) _ _ _ refl c.loop-state.invariant
    (to_z-of_z w128 _ fits ∙ c.weighed_part-total.ensures) (c.requires.sums (suc c.loop-state.state) more)

pub overflow_mul-result : goal.overflow_mul-result
overflow_mul-result c =
    let all : c.loop-state.state ≡ length c.args.rewards.now = omega arith in
    let fits : SFits w128 c.args.power = c.ranges.power in
    times_fits _ _ _ _ _ (c.loop-state.invariant
    ∙ ap (λ n. int_sum n (weighed_part c.args.rewards.now c.args.weights.now)) all) (to_z-of_z w128 _ fits) refl
    c.requires.whole

pub returns : goal.returns
returns c =
    let all : c.loop-state.state ≡ length c.args.rewards.now = omega arith in
    let fits : SFits w128 c.args.power = c.ranges.power in
    times_is _ _ _ _ _ (c.loop-state.invariant
    ∙ ap (λ n. int_sum n (weighed_part c.args.rewards.now c.args.weights.now)) all) (to_z-of_z w128 _ fits) refl
    c.requires.whole
