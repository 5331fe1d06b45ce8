use Rattle.std.proofs.Common.{◌≡◌, ◌+◌, ◌-◌, ◌*◌, ◌/◌, ◌%◌, ◌<◌, ℤ, [], ◌∷◌, sym, ap, ◌∙◌, arith, rules}
use Rattle.std.specs.Int.{w128}
use Rattle.std.proofs.lemmas.Int.{to_z-of_z}
use mir.Val.{SFits}
use Rattle.dp_spec.specs.Arithmetic.{arithmetic}
use Rattle.dp_spec.specs.Quantities.{action_look_ahead_in}
use Rattle.dp_pomdp.specs.Looking.{weights_of}
use Rattle.dp_pomdp.specs.Memos.{action_of}
use Rattle.dp_pomdp.proofs.rows.kept_action.Goals as goal

pub returns-clause-actions : goal.returns-clause-actions
returns-clause-actions c =
    let fit = c.args.fit in
    let m = c.args.model.now.model in
    let A = arithmetic fit.exact m.scales in
    let few = c.invariant.ensures.model.sizes.joint_actions_limit in
    let small : c.args.a < 256 = omega (arith, few, c.requires.action) in
    let action : (c.args.look * 256 + c.args.a) % 256 ≡ c.args.a = omega (arith, small) in
    let look : (c.args.look * 256 + c.args.a) / 256 ≡ c.args.look = omega (arith, small) in
    let fits : SFits w128 c.action_in_mode-value.result = search rules in
    let is = to_z-of_z w128 _ fits ∙ c.action_in_mode-value.ensures.is
    ∙ (λ j. action_look_ahead_in A m (fit.horizon - c.args.t - 1) (weights_of c.args.weights.now)
    (sym action j) (sym look j)) in
    c.keep.ensures (action_of A m) c.requires.actions (ap (λ (x : ℤ). x ∷ []) is)
