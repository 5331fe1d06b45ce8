use Rattle.std.proofs.Common.{ℕ, sym, ap, subst, ◌∙◌, rules}
use Rattle.std.specs.Int.{w128}
use Rattle.std.proofs.lemmas.Int.{to_z-of_z}
use Rattle.dp_spec.specs.Arithmetic.{arithmetic}
use Rattle.dp_spec.specs.Fitting.{front_bound}
use Rattle.dp_spec.specs.Steps.{root_front}
use Rattle.dp_model.specs.declared.horizon.Fit.{Fit}
use Rattle.dp_cluster.specs.KeptFronts.{KeptFront}
use Rattle.dp_search.specs.Expansions.{mode_bound}
use Rattle.dp_search.specs.FrontPlanners.{IsPlannerFront}
use Rattle.dp_search.specs.Paths.{IsPath, path_front}
use Rattle.dp_search.proofs.Expansions.{own_mode}
use Rattle.dp_search.proofs.PlannerFronts.{root_early, root_of_search}
use Rattle.dp_search.proofs.front_planner.FrontPlannerPlanner.root.Goals as goal

pub own_bound-requires-clause-front : goal.own_bound-requires-clause-front
own_bound-requires-clause-front g c =
    let p = c.args.self.now in
    let m = p.model.now.model in
    let h = p.fit.horizon in
    let is = c.in_ok-front.ensures.of_planner m h p.bounder.now.look p.options.merge c.requires.room.made in
    subst (λ (n : ℕ). IsPlannerFront m n c.as_ref.result.now) (sym c.requires.ready.planner.bounder_horizon)
    (subst (IsPlannerFront m h) (sym c.as_ref.ensures) is)

pub of-held-requires : goal.of-held-requires
of-held-requires g c =
    let p = c.args.self.now in
    record {
      of_model = (c.in_ok-front.ensures.of_planner p.model.now.model p.fit.horizon p.bounder.now.look p.options.merge
          c.requires.room.made).of_model;
    }

-- the bound is that of the root front
pub returns-clause-bound : goal.returns-clause-bound
returns-clause-bound g c =
    let p = c.args.self.now in
    let m = p.model.now.model in
    let h = p.fit.horizon in
    let look = p.bounder.now.look in
    let k = c.in_ok-front.front.value in
    let is = c.in_ok-front.ensures.of_planner m h look p.options.merge c.requires.room.made in
    to_z-of_z w128 c.in_ok-bound.bound (search (rules, c.own_bound.type_inv))
    ∙ c.in_ok-bound.ensures.is
    ∙ ap (λ (o : KeptFront). front_bound (arithmetic o.is_exact m.scales) m o.horizon look o.front) c.as_ref.ensures
    ∙ own_mode m h look k is
    ∙ ap (λ (n : ℕ). mode_bound m h n k.front) c.requires.ready.planner.bounder_look
    ∙ ap (mode_bound m h p.options.look) (c.in_ok-front.ensures.front m h look p.options.merge c.requires.room.made)
    ∙ ap (λ (f : Fit). front_bound (arithmetic f.exact m.scales) m h p.options.look (root_front m))
    (sym c.requires.ready.planner.fit)

pub returns-clause-front : goal.returns-clause-front
returns-clause-front g c =
    c.of-held.ensures.front ∙ ap (path_front c.args.self.now.model.now.model) c.in_ok-path.ensures.ok

pub returns-clause-of_planner : goal.returns-clause-of_planner
returns-clause-of_planner g c =
    let p = c.args.self.now in
    let m = p.model.now.model in
    let h = p.fit.horizon in
    let look = p.bounder.now.look in
    let merging = p.options.merge in
    let k = c.in_ok-front.front.value in
    let is = c.in_ok-front.ensures.of_planner m h look merging c.requires.room.made in
    let at = c.in_ok-front.ensures.front m h look merging c.requires.room.made in
    let here = ap (path_front m) c.in_ok-path.ensures.ok in
    c.of-held.ensures.held h p.options.look merging
    (subst (IsPath m h merging) (sym c.in_ok-path.ensures.ok) tt)
    (at ∙ sym here) (root_of_search m h k is.of_model at is.horizon)
    (to_z-of_z w128 c.in_ok-bound.bound (search (rules, c.own_bound.type_inv))
    ∙ c.in_ok-bound.ensures.is
    ∙ ap (λ (o : KeptFront). front_bound (arithmetic o.is_exact m.scales) m o.horizon look o.front) c.as_ref.ensures
    ∙ own_mode m h look k is
    ∙ ap (λ (n : ℕ). mode_bound m h n k.front) c.requires.ready.planner.bounder_look)

pub returns-clause-early : goal.returns-clause-early
returns-clause-early g c =
    let p = c.args.self.now in
    root_early p.model.now.model p.fit.horizon c.requires.ready.planner.some_step
