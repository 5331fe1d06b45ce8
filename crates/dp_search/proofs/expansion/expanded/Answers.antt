use Rattle.std.proofs.Common.{subst, sym, ◌∙◌, ◌<◌, ap, IfOk, rules}
use Rattle.std.specs.Int.{w128}
use Rattle.std.proofs.lemmas.Int.{to_z-of_z}
use Rattle.dp_spec.specs.Front.{Front}
use Rattle.dp_spec.specs.Steps.{is_complete}
use Rattle.dp_spec.specs.Wide.{is_wide}
use Rattle.dp_model.specs.Horizons.{fit_of}
use Rattle.dp_search.specs.Expansions.{mode_bound}
use Rattle.dp_search.specs.FrontPlanners.{planner_space, widest}
use Rattle.dp_search.specs.HeldFronts.{IsExpansion}
use Rattle.dp_search.specs.Rules.{MayAnswer}
use Rattle.dp_search.proofs.expansion.expanded.Goals as goal

pub expanded_at-requires-clause-unfinished : goal.expanded_at-requires-clause-unfinished
expanded_at-requires-clause-unfinished g c =
    ap (λ (F : Front). is_complete F.agents) c.in_ok-start.ensures.is.front
    ∙ c.requires.held.unfinished c.requires.stage

pub expanded_at-requires-clause-stage : goal.expanded_at-requires-clause-stage
expanded_at-requires-clause-stage g c =
    subst (λ (F : Front). F.stage < c.args.bounder.now.horizon) (sym c.in_ok-start.ensures.is.front)
    c.requires.stage

pub expanded_at-requires-clause-narrow : goal.expanded_at-requires-clause-narrow
expanded_at-requires-clause-narrow g c =
    let m = c.args.model.now.model in
    let h = c.args.bounder.now.horizon in (
      c.requires.narrow.0,
      ap (is_wide m h c.requires.narrow.0) c.in_ok-start.ensures.is.front ∙ c.requires.narrow.1,
    )

pub expanded_at-requires-clause-bound : goal.expanded_at-requires-clause-bound
expanded_at-requires-clause-bound g c =
    to_z-of_z w128 c.copied-bound.result (search (rules, c.copied-bound.type_inv))
    ∙ c.copied-bound.ensures ∙ c.requires.held.bound
    ∙ ap (mode_bound c.args.model.now.model c.args.bounder.now.horizon c.args.options.look)
    (sym c.in_ok-start.ensures.is.front)

pub returns-clause-is : goal.returns-clause-is
returns-clause-is g c =
    let m = c.args.model.now.model in
    let h = c.args.bounder.now.horizon in
    let opts = c.args.options in
    let S = planner_space m (fit_of m h) opts (MayAnswer g.F.Fn c.args.rule.now) in
    subst (λ (F : Front). IfOk c.expanded_at.result
    (IsExpansion S m h opts.look (widest m.actions) opts.merge F))
    c.in_ok-start.ensures.is.front c.expanded_at.ensures.is
