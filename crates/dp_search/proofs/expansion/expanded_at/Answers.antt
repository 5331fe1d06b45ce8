use Rattle.std.proofs.Common.{◌≡◌, ◌<◌, true, IfOk, ap, sym, subst, ◌∙◌}
use Rattle.std.specs.Int.{w128}
use Rattle.std.proofs.lemmas.Int.{to_z-of_z}
use Rattle.dp_spec.specs.Mode.{is_exact_mode}
use Rattle.dp_spec.specs.Qualities.{HasNoEquivalent}
use Rattle.dp_model.specs.Horizons.{fit_of}
use Rattle.dp_cluster.specs.KeptFronts.{IsFrontOf, KeptFront}
use Rattle.dp_search.specs.Expansions.{mode_bound}
use Rattle.dp_search.specs.FrontPlanners.{IsPlannerFront, planner_space, widest}
use Rattle.dp_search.specs.HeldFronts.{IsExpansion}
use Rattle.dp_search.specs.Rules.{MayAnswer}
use Rattle.dp_search.proofs.Expansions.{if_ok_all, merge_expands, of_some}
use Rattle.dp_search.proofs.HeldFronts.{on_ok_weaker, settled_or}
use Rattle.dp_search.proofs.expansion.expanded_at.Goals as goal

pub pair_at-requires-clause-of_model : goal.pair_at-requires-clause-of_model
pair_at-requires-clause-of_model g c =
    let m = c.args.model.now.model in
    (m, subst (IsFrontOf m) (sym c.as_ref-front.ensures) c.requires.start.of_planner.of_model)

pub branched-requires-clause-no_pair : goal.branched-requires-clause-no_pair
branched-requires-clause-no_pair g c merging exact =
    let m = c.args.model.now.model in
    let is = c.requires.start.of_planner in
    let same = c.as_ref-front.ensures in
    let k = c.as_ref-front.result.now in
    let of_model = subst (IsFrontOf m) (sym same) is.of_model in
    let mode : k.is_exact ≡ true =
    ap (λ (o : KeptFront). o.is_exact) same ∙ is.of_model.mode ∙ ap (is_exact_mode m) is.horizon ∙ exact in
    settled_or c.args.start.settled
    (λ on. subst (HasNoEquivalent m) (sym c.requires.start.front) (c.requires.start.settled on merging exact))
    (λ off. subst (λ (o : KeptFront). HasNoEquivalent m o.front) same
    (c.in_ok-pair.ensures.none c.in-None.is off merging mode m of_model))

pub returns-in-Some-clause-is : goal.returns-in-Some-clause-is
returns-in-Some-clause-is g c =
    let m = c.args.model.now.model in
    let h = c.args.bounder.now.horizon in
    let opts = c.args.options in
    let same = c.as_ref-front.ensures in
    let k = c.as_ref-front.result.now in
    let is : IsPlannerFront m h k = subst (IsPlannerFront m h) (sym same) c.requires.start.of_planner in
    let stage : k.front.stage < h = subst (λ (o : KeptFront). o.front.stage < h) (sym same) c.requires.stage in
    let bound : c.args.bound ≡ mode_bound m h opts.look k.front =
    c.requires.bound ∙ ap (λ (o : KeptFront). mode_bound m h opts.look o.front) (sym same) in
    let S = planner_space m (fit_of m h) opts (MayAnswer g.F.Fn c.args.rule.now) in
    let pair = c.in-Some.pair in
    subst (λ (o : KeptFront). IfOk c.merged.result (IsExpansion S m h opts.look (widest m.actions) opts.merge
    o.front)) same
    (if_ok_all _ _ _ _
    (λ x step fronts children. merge_expands m h opts k is stage
    (MayAnswer g.F.Fn c.args.rule.now) x pair.agent pair.first pair.second step fronts
    (children h opts.look opts.merge is c.requires.path
    (to_z-of_z w128 c.args.bound c.ranges.bound ∙ bound))
    (of_some _ _ pair c.in-Some.is c.in_ok-pair.ensures.pair m is.of_model)
    (of_some _ _ pair c.in-Some.is c.in_ok-pair.ensures.exact)
    (of_some _ _ pair c.in-Some.is c.in_ok-pair.ensures.merging))
    c.merged.result c.merged.ensures.step c.merged.ensures.fronts c.merged.ensures.children)

pub returns-in-Some-clause-room : goal.returns-in-Some-clause-room
returns-in-Some-clause-room g c =
    let m = c.args.model.now.model in
    let h = c.args.bounder.now.horizon in
    let look = c.args.bounder.now.look in
    let is = subst (IsPlannerFront m h) (sym c.as_ref-front.ensures) c.requires.start.of_planner in
    on_ok_weaker
    (λ goes_on. record {
      look_room = c.requires.room.look_room;
      made = goes_on h look c.args.options.merge is c.requires.room.made;
    })
    c.merged.result c.merged.ensures.made
