-- The certificate of a planner's search keeps the promises of a plan.
use Rattle.std.proofs.Common.{◌≡◌, ℕ, List, refl, sym, ap, subst}
use Rattle.dp_spec.specs.Certificate.{Certificate}
use Rattle.dp_spec.specs.ConstantPolicy.{constant_policy}
use Rattle.dp_spec.specs.Mode.{IsWithinVersion}
use Rattle.dp_spec.specs.Model.{Model, joint_actions}
use Rattle.dp_spec.specs.Promises.{IsBestConstant, IsPlanned, constant_worth}
use Rattle.dp_spec.specs.Qualities.{Place}
use Rattle.dp_spec.specs.Searched.{IsSearched}
use Rattle.dp_spec.specs.SharedPolicy.{unfolded}
use Rattle.dp_laws.specs.GrowthLaws.{StatesSearch}
use Rattle.dp_laws.proofs.SearchPlans.{searched_is_planned}
use Rattle.dp_model.specs.declared.horizon.Fit.{Fit}
use Rattle.dp_model.specs.Horizons.{fit_of}
use Rattle.dp_policy.specs.SharedRows.{HorizonRows}
use Rattle.dp_tree.specs.TreeValue.{bound_tree}
use Rattle.dp_search.specs.declared.options.PlanOpts.{PlanOpts}
use Rattle.dp_search.specs.declared.search.Searched.{Searched}
use Rattle.dp_search.specs.Constants.{IsLeastGreatest, constant_low_worth}
use Rattle.dp_search.specs.FrontPlanners.{IsPlannerPolicy, planner_space, planner_worth}
use Rattle.dp_search.specs.FrontPlanning.{asked_for, certificate_found}

module _ (m : Model) (May : List Place → ℕ → Type 0) (fit : Fit) (opts : PlanOpts) (a : ℕ)
    (found : Searched HorizonRows) (fit_is : fit ≡ fit_of m fit.horizon)
    (within : IsWithinVersion m fit.horizon opts.version)
    (best : IsLeastGreatest (joint_actions m) (constant_low_worth fit.exact m opts.version fit.horizon) a)
    (done : IsSearched (planner_space m fit opts May) opts.nodes
    (constant_low_worth fit.exact m opts.version fit.horizon a) found.lower found.inner (bound_tree found.tree))
    (policy : IsPlannerPolicy m fit.horizon opts.version found.policy)
    (lower : planner_worth m fit found.policy ≡ found.lower)
    (constant : found.inner ≡ 0 → unfolded found.policy.rows ≡ constant_policy m fit.horizon a) where
  abbrev c : Certificate
  c = certificate_found fit opts found

  best_is : IsBestConstant m c a
  unfolding constant_worth
  best_is = record { action = best.below; greatest = best.greatest; least = best.least }

  states : StatesSearch m fit.horizon (asked_for opts) a c
  states = record {
    version = refl;
    horizon = refl;
    look = refl;
    within = within;
    mode = ap (λ (f : Fit). f.exact) fit_is;
    unit = ap (λ (f : Fit). f.unit) fit_is;
    policy = record {
      version = within.known;
      shared = policy.shared;
      plain = policy.plain;
    };
    lower = sym lower;
    upper = refl;
    shared_form = policy.shared_form;
    best_constant = best_is;
    constant = constant;
  }

  found_is_planned : IsPlanned m May fit.horizon (asked_for opts) c
  unfolding constant_worth
  found_is_planned = searched_is_planned m May fit.horizon (asked_for opts) a c states done

  pub certificate_is_planned : (given : Certificate) → given ≡ c
      → IsPlanned m May fit.horizon (asked_for opts) given
  certificate_is_planned given is = subst (IsPlanned m May fit.horizon (asked_for opts)) (sym is)
      found_is_planned
