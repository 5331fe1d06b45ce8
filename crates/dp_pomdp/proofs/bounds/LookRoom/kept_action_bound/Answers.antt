use Rattle.std.proofs.Common.{◌-◌, ◌^◌, ◌<◌, ◌*ℤ◌, ℤ, List, sym, ap, subst, ◌∙◌, rules, unsigned_abs, to_z, of_z}
use Rattle.std.specs.Int.{w128}
use Rattle.std.proofs.lemmas.Int.{to_z-of_z}
use mir.Val.{SFits}
use Rattle.dp_spec.specs.Arithmetic.{arithmetic}
use Rattle.dp_spec.specs.Quantities.{action_look_ahead_in}
use Rattle.dp_spec.specs.Sizes.{AreWeights}
use Rattle.dp_spec.specs.declared.span.Span.{Span}
use Rattle.dp_pomdp.specs.Looking.{weights_of}
use Rattle.dp_pomdp.proofs.TimesRows.{base_weights, times_action, times_action_fits}
use Rattle.dp_pomdp.proofs.bounds.LookRoom.kept_action_bound.Goals as goal

pub kept_action-value-requires-clause-weights : goal.kept_action-value-requires-clause-weights
kept_action-value-requires-clause-weights c =
    let m = c.args.model.now.model in
    let fit = c.args.fit in
    let given = c.in_ok-factor.ensures in
    let weights =
    base_weights fit.exact m c.invariant.ensures.model fit.horizon c.args.t fit.unit c.requires.fit c.requires.time
    c.args.weights.now c.requires.one_each c.requires.weights c.base_of.new.base.items c.in_ok-factor.factor
    given.times given.outward given.outward_stay in
    subst (λ (l : List Span). AreWeights fit.exact m c.args.t (weights_of l)) (sym c.deref.ensures.value) weights

pub times-requires : goal.times-requires
times-requires c =
    let m = c.args.model.now.model in
    let fit = c.args.fit in
    let A = arithmetic fit.exact m.scales in
    let given = c.in_ok-factor.ensures in
    let fits : SFits w128 c.in_ok-factor.factor = search rules in
    let same = to_z-of_z w128 c.in_ok-factor.factor fits in
    let fits-value : SFits w128 c.kept_action-value.result = search rules in
    let value = to_z-of_z w128 _ fits-value ∙ c.kept_action-value.ensures.is
    ∙ ap (λ (l : List Span). action_look_ahead_in A m (fit.horizon - c.args.t - 1) (weights_of l) c.args.a
    c.args.look) c.deref.ensures.value in
    subst (λ (x : ℤ). unsigned_abs (to_z w128 (of_z w128 c.in_ok-factor.factor) *ℤ x) < 2 ^ 127) (sym value)
    (times_action_fits fit.exact m c.invariant.ensures.model fit.horizon c.args.t fit.unit c.requires.fit
    c.requires.time c.args.weights.now c.requires.one_each c.requires.weights c.base_of.new.base.items _
    (given.times.0, same ∙ given.times.1, given.times.2) (λ o. same ∙ given.outward o) given.outward_stay
    c.args.look c.args.a c.requires.action)

pub returns-clause-is : goal.returns-clause-is
returns-clause-is c =
    let m = c.args.model.now.model in
    let fit = c.args.fit in
    let A = arithmetic fit.exact m.scales in
    let given = c.in_ok-factor.ensures in
    let fits : SFits w128 c.in_ok-factor.factor = search rules in
    let same = to_z-of_z w128 c.in_ok-factor.factor fits in
    let fits-value : SFits w128 c.kept_action-value.result = search rules in
    let value = to_z-of_z w128 _ fits-value ∙ c.kept_action-value.ensures.is
    ∙ ap (λ (l : List Span). action_look_ahead_in A m (fit.horizon - c.args.t - 1) (weights_of l) c.args.a
    c.args.look) c.deref.ensures.value in
    let fits-times : SFits w128 c.times.result = search rules in
    to_z-of_z w128 _ fits-times ∙ c.times.ensures
    ∙ ap (λ (x : ℤ). to_z w128 (of_z w128 c.in_ok-factor.factor) *ℤ x) value
    ∙ sym (times_action fit.exact m c.invariant.ensures.model fit.horizon c.args.t fit.unit c.requires.fit
    c.requires.time c.args.weights.now c.requires.one_each c.requires.weights c.base_of.new.base.items _
    (given.times.0, same ∙ given.times.1, given.times.2) (λ o. same ∙ given.outward o) given.outward_stay
    c.args.look c.args.a)
