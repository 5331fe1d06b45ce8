use Rattle.std.proofs.Common.{◌≡◌, ◌-◌, filter, ℕ, ap, sym, refl, ◌∙◌, arith, rules}
use Rattle.std.specs.Int.{w128}
use Rattle.std.proofs.lemmas.Int.{to_z-of_z}
use mir.Val.{SFits}
use Rattle.dp_base.specs.Sums.{greatest, numbers_below}
use Rattle.dp_spec.specs.Arithmetic.{arithmetic}
use Rattle.dp_spec.specs.JointNumbers.{parts_of, product}
use Rattle.dp_spec.specs.Model.{joint_actions}
use Rattle.dp_spec.specs.Quantities.{action_look_ahead_in}
use Rattle.dp_cluster.proofs.Pairs.{actions_product}
use Rattle.dp_pomdp.specs.Looking.{weights_of}
use Rattle.dp_game.specs.Games.{each_agrees}
use Rattle.dp_game.proofs.Agreement.{next_best, next_some}
use Rattle.dp_game.proofs.deeper.look_of_best.Goals as goal

pub look_of_greater-requires-clause-action : goal.look_of_greater-requires-clause-action
look_of_greater-requires-clause-action c =
    let m = c.args.model.now.model in
    let all : product c.args.actions.now ≡ joint_actions m =
    ap product c.requires.actions ∙ sym (actions_product m) in
    omega (arith, all, c.count-action-end.ensures.is, c.loop-action-test.true)

pub loop-action-preserved : goal.loop-action-preserved
loop-action-preserved c =
    let m = c.args.model.now.model in
    let b = c.args.bounder.now in
    let fits : SFits w128 c.in_ok-best.best = search (rules, c.look_of_greater.type_inv) in
    let f = λ (a : ℕ). action_look_ahead_in (arithmetic b.is_exact m.scales) m (b.horizon - c.args.stage - 1)
    (weights_of c.args.weights.now) a c.args.look in
    let p = λ (a : ℕ). each_agrees c.args.wanted.now (parts_of c.args.actions.now a) in
    let k = c.loop-action.action in
    let new = c.in_ok-best.ensures.is (f k) refl in
    let step = next_best f p k c.loop-action.some c.agrees-agrees.result _ (f k) c.in_ok-best.best
    c.agrees-agrees.ensures refl c.loop-action.invariant.0 c.loop-action.invariant.1 new in
    let some = next_some f p k c.loop-action.some c.agrees-agrees.result _ (f k) c.in_ok-best.best
    c.agrees-agrees.ensures refl c.loop-action.invariant.0 c.loop-action.invariant.1 new in
    (c.either-some.ensures ∙ some, to_z-of_z w128 _ fits ∙ step, c.look_of_greater.ensures.room)

pub returns-clause-is : goal.returns-clause-is
returns-clause-is c =
    let m = c.args.model.now.model in
    let b = c.args.bounder.now in
    let all : c.loop-action.action ≡ product c.args.actions.now = omega
    (arith, c.count-action-end.ensures.is, c.loop-action-test.false) in
    c.loop-action.invariant.1
    ∙ ap (λ n. greatest (λ a. action_look_ahead_in (arithmetic b.is_exact m.scales) m
    (b.horizon - c.args.stage - 1) (weights_of c.args.weights.now) a c.args.look)
    (filter (λ a. each_agrees c.args.wanted.now (parts_of c.args.actions.now a)) (numbers_below n))) all
