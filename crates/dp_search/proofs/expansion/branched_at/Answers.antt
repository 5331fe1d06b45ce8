use Rattle.std.proofs.Common.{◌≡◌, ◌<◌, All, ℕ, map, length, refl, sym, ap, subst, ◌∙◌, rules}
use Rattle.std.specs.Fn.{FnReturnsAt}
use Rattle.dp_spec.specs.Arithmetic.{arithmetic}
use Rattle.dp_spec.specs.Mode.{is_exact_mode}
use Rattle.dp_spec.specs.Qualities.{places_of}
use Rattle.dp_search.specs.HeldFronts.{IsHeldChild}
use Rattle.dp_search.specs.Rules.{MayAnswer, place_of, told_places}
use Rattle.dp_search.proofs.BranchPlaces.{as_many, place_free, place_picked, some_told}
use Rattle.dp_search.proofs.Expansions.{branch_expands, own_places}
use Rattle.dp_search.proofs.LastChoices.{places_counted}
use Rattle.dp_search.proofs.expansion.branched_at.Goals as goal

pub pick-requires-clause-some : goal.pick-requires-clause-some
pick-requires-clause-some g c =
    let m = c.args.model.now.model in
    let k = c.args.front.now in
    subst (λ l. 0 < length l) (sym c.deref.ensures.value)
    (some_told (arithmetic k.is_exact m.scales) m k.horizon c.args.options.look k.front c.spreads.result
    c.in_ok-all.all.items c.in_ok-all.ensures.places c.requires.unfinished)

pub children_at-requires-clause-unassigned : goal.children_at-requires-clause-unassigned
children_at-requires-clause-unassigned g c =
    let m = c.args.model.now.model in
    let k = c.args.front.now in
    place_free (arithmetic k.is_exact m.scales) m k.horizon c.args.options.look k.front c.spreads.result
    c.in_ok-all.all.items c.in_ok-all.ensures.places c.pick.result _ _
    (subst (λ l. c.pick.result < length l) c.deref.ensures.value c.pick.ensures.below) c.index-place.ensures

pub children_at-requires-clause-one : goal.children_at-requires-clause-one
children_at-requires-clause-one g c one =
    let m = c.args.model.now.model in
    let k = c.args.front.now in
    let look = c.args.options.look in
    let A = arithmetic k.is_exact m.scales in
    let single : length c.in_ok-all.all.items ≡ 1 = search (rules, one) in
    sym (as_many A m k.horizon look k.front c.spreads.result c.in_ok-all.all.items c.in_ok-all.ensures.places
    ∙ places_counted A m k.horizon look k.front) ∙ single

pub returns-clause-is : goal.returns-clause-is
returns-clause-is g c =
    let m = c.args.model.now.model in
    let h = c.args.bounder.now.horizon in
    let k = c.args.front.now in
    let opts = c.args.options in
    let look = opts.look in
    let all = c.in_ok-all.all.items in
    let A = arithmetic (is_exact_mode m h) m.scales in
    let s = c.spreads.result in
    let are : map place_of all ≡ told_places s (places_of A m h look k.front) =
    c.in_ok-all.ensures.places ∙ ap (told_places s) (own_places m h opts k c.requires.front c.requires.stage look) in
    let below : c.pick.result < length all = subst (λ l. c.pick.result < length l) c.deref.ensures.value
    c.pick.ensures.below in
    branch_expands m h opts k c.requires.front c.requires.stage
    (MayAnswer g.F.Fn c.args.rule.now) _ c.index-place.result.now.agent c.index-place.result.now.class refl
    c.in_ok-children.ensures.fronts
    (subst (λ (n : ℕ). All (IsHeldChild m h n opts.merge) c.in_ok-children.children.items) c.requires.look
    (c.in_ok-children.ensures.children opts.merge c.requires.path c.requires.no_pair))
    (place_free A m h look k.front s all are c.pick.result _ _ below c.index-place.ensures)
    (place_picked A m h look k.front s all are c.pick.result _ _ below c.index-place.ensures
    g.F.Fn c.args.rule.now (sym c.spreads.ensures)
    (subst (λ l. FnReturnsAt g.F.Fn c.args.rule.now.rule l c.pick.result) c.deref.ensures.value
    c.pick.ensures.answer))
    c.requires.no_pair
