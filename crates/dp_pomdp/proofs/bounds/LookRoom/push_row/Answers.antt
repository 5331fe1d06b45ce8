use Rattle.std.proofs.Common.{◌-◌, ◌++◌, ℤ, List, sym, ap, subst, ◌∙◌, rules}
use Rattle.std.specs.Int.{w128}
use Rattle.std.proofs.lemmas.Int.{to_z-of_z}
use mir.Val.{SFits}
use Rattle.dp_spec.specs.Arithmetic.{arithmetic}
use Rattle.dp_spec.specs.Sizes.{AreWeights}
use Rattle.dp_spec.specs.declared.span.Span.{Span}
use Rattle.dp_pomdp.specs.Looking.{weights_of}
use Rattle.dp_pomdp.specs.Memos.{row_of}
use Rattle.dp_pomdp.proofs.TimesRows.{base_weights, times_fit, times_row}
use Rattle.dp_pomdp.proofs.bounds.LookRoom.push_row.Goals as goal

pub kept_row-requires-clause-weights : goal.kept_row-requires-clause-weights
kept_row-requires-clause-weights c =
    let m = c.args.model.now.model in
    let fit = c.args.fit in
    let given = c.in_ok-factor.ensures in
    let weights =
    base_weights fit.exact m c.invariant.ensures.model fit.horizon c.args.t fit.unit c.requires.fit c.requires.time
    c.args.weights.now c.requires.one_each c.requires.weights c.base_of.new.base.items c.in_ok-factor.factor
    given.times given.outward given.outward_stay in
    subst (λ (l : List Span). AreWeights fit.exact m c.args.t (weights_of l)) (sym c.deref.ensures.value) weights

pub push_times-requires : goal.push_times-requires
push_times-requires c =
    let m = c.args.model.now.model in
    let fit = c.args.fit in
    let A = arithmetic fit.exact m.scales in
    let given = c.in_ok-factor.ensures in
    let fits : SFits w128 c.in_ok-factor.factor = search rules in
    let same = to_z-of_z w128 c.in_ok-factor.factor fits in
    let made =
    c.deref-2.ensures.value ∙ c.in_ok-kept_row.ensures.is
    ∙ ap (row_of A m (fit.horizon - c.args.t) c.args.look) c.deref.ensures.value in
    times_fit fit.exact m c.invariant.ensures.model fit.horizon c.args.t fit.unit c.requires.fit c.requires.time
    c.args.weights.now c.requires.one_each c.requires.weights c.base_of.new.base.items _
    (given.times.0, same ∙ given.times.1, given.times.2) (λ o. same ∙ given.outward o) given.outward_stay
    c.args.look c.deref-2.result.now made

pub returns-clause-is : goal.returns-clause-is
returns-clause-is c =
    let m = c.args.model.now.model in
    let fit = c.args.fit in
    let A = arithmetic fit.exact m.scales in
    let given = c.in_ok-factor.ensures in
    let fits : SFits w128 c.in_ok-factor.factor = search rules in
    let same = to_z-of_z w128 c.in_ok-factor.factor fits in
    let made =
    c.deref-2.ensures.value ∙ c.in_ok-kept_row.ensures.is
    ∙ ap (row_of A m (fit.horizon - c.args.t) c.args.look) c.deref.ensures.value in
    let row = times_row fit.exact m c.invariant.ensures.model fit.horizon c.args.t fit.unit c.requires.fit
    c.requires.time c.args.weights.now c.requires.one_each c.requires.weights c.base_of.new.base.items _
    (given.times.0, same ∙ given.times.1, given.times.2) (λ o. same ∙ given.outward o) given.outward_stay
    c.args.look c.deref-2.result.now made in
    c.in_ok-push_times.ensures ∙ ap (λ (l : List ℤ). c.args.row.now.items ++ l) row
