-- What a planner over fronts is made of, with its rule, and the fronts that its search holds. (Own.)
use Rattle.std.specs.Prelude.{◌≡◌, ℕ, ◌<◌, false, List}
use Rattle.std.proofs.Common.{arith}
use Rattle.std.proofs.lemmas.Bool.Decides.{nat_tests}
use Rattle.std.specs.Fn.{Shared}
use denote.Ref.{Bor}
use Rattle.dp_spec.specs.BoundTree.{greatest_leaf}
use Rattle.dp_spec.specs.Certificate.{Certificate}
use Rattle.dp_spec.specs.Front.{Front}
use Rattle.dp_spec.specs.Model.{Model}
use Rattle.dp_spec.specs.Promises.{PlanOptions}
use Rattle.dp_spec.specs.Qualities as qualities
use Rattle.dp_spec.specs.Steps.{is_complete}
use Rattle.dp_spec.specs.Wide.{is_wide}
use Rattle.dp_model.specs.declared.horizon.Fit.{Fit}
use Rattle.dp_policy.specs.SharedRows.{HorizonRows}
use Rattle.dp_tree.specs.TreeValue.{bound_tree}
use Rattle.dp_cluster.specs.KeptFronts.{KeptFront}
use Rattle.dp_game.specs.Bounders.{KeptBounder}
use Rattle.dp_search.specs.declared.action_worth.ActionWorth.{ActionWorth}
use Rattle.dp_search.specs.declared.options.PlanOpts.{PlanOpts}
use Rattle.dp_search.specs.declared.place.Place.{Place}
use Rattle.dp_search.specs.declared.search.Searched.{Searched}
use Rattle.dp_search.specs.FrontPlanners.{IsPlannerFor, IsPlannerFront, planner_space}
use Rattle.dp_search.specs.Rules.{IsBranchingRule}

-- A planner is made for a model, and its rule may be called.
pub record IsReadyPlanner {F : Type 0} (g : Shared F (Bor (List Place) × Unit {0}) ℕ) (m : Model) (f : Fit)
    (opts : PlanOpts) (b : KeptBounder) (w : ActionWorth) (r : F) : Type 0 where
  pub planner : IsPlannerFor m f opts b w
  pub rule : IsBranchingRule g r

-- A front that a search holds: one of the planner, where before the horizon some class has no action.
pub record IsSearchFront (m : Model) (h : ℕ) (k : KeptFront) : Type 0 where
  pub of_planner : IsPlannerFront m h k
  pub unfinished : k.front.stage < h → is_complete k.front.agents ≡ false

-- with 2048 steps above it a node is wide, if it is not full
pub planner_deep : (m : Model) (fit : Fit) (opts : PlanOpts) (May : List qualities.Place → ℕ → Type 0)
    (above : ℕ) (F : Front) → (planner_space m fit opts May).is_full F ≡ false
    → (planner_space m fit opts May).is_wide above F ≡ false → above < 2048
unfolding is_wide
planner_deep m fit opts May above F early narrow = grind (arith, nat_tests)

-- what is asked for, in the options of the definitions
abbrev pub asked_for : PlanOpts → PlanOptions
asked_for opts = record { version = opts.version; nodes = opts.nodes; look = opts.look; merge = opts.merge }

-- the certificate of what a search found
abbrev pub certificate_found : Fit → PlanOpts → Searched HorizonRows → Certificate
certificate_found fit opts found = record {
  version = opts.version;
  horizon = fit.horizon;
  look = opts.look;
  is_exact = fit.exact;
  unit = fit.unit;
  lower = found.lower;
  upper = greatest_leaf (bound_tree found.tree);
  inner = found.inner;
  policy = found.policy.rows;
  tree = bound_tree found.tree;
}
