-- What a planner over the fronts of a model is made of, and the space that it searches. (Own.)
use Rattle.std.specs.Prelude.{◌≡◌, ℕ, ◌<◌, ◌≤◌, true, List, [], ◌∷◌, ℤ}
use Rattle.std.proofs.Common.{max}
use Rattle.dp_spec.specs.Arithmetic.{arithmetic}
use Rattle.dp_spec.specs.FrontSpace.{front_space}
use Rattle.dp_spec.specs.FullPolicy.{full_policy}
use Rattle.dp_spec.specs.Mode.{IsWithinVersion}
use Rattle.dp_spec.specs.Model.{IsModel, Model, joint_actions}
use Rattle.dp_spec.specs.PlainForm.{IsPlain}
use Rattle.dp_spec.specs.Qualities.{Place}
use Rattle.dp_spec.specs.SharedForm.{IsSharedForm}
use Rattle.dp_spec.specs.SharedPolicy.{IsSharedOf}
use Rattle.dp_spec.specs.SharedWorth.{low_worth, shared_worth_in}
use Rattle.dp_spec.specs.Space.{Space}
use Rattle.dp_spec.specs.Wide.{has_room}
use Rattle.dp_model.specs.declared.horizon.Fit.{Fit}
use Rattle.dp_model.specs.Horizons.{fit_of}
use Rattle.dp_policy.specs.SharedRows.{HorizonRows}
use Rattle.dp_cluster.specs.KeptFronts.{IsFrontOf, KeptFront}
use Rattle.dp_game.specs.Bounders.{IsBounderOf, KeptBounder}
use Rattle.dp_search.specs.declared.action_worth.ActionWorth.{ActionWorth}
use Rattle.dp_search.specs.declared.options.PlanOpts.{PlanOpts}
use Rattle.dp_search.specs.Constants.{IsLeastGreatest, constant_low_worth}

-- A planner is made for a model, a fit of its version, and a look, with the best constant policy.
pub record IsPlannerFor (m : Model) (f : Fit) (opts : PlanOpts) (b : KeptBounder)
    (w : ActionWorth) : Type 0 where
  pub model : IsModel m
  pub within : IsWithinVersion m f.horizon opts.version
  pub some_step : 0 < f.horizon
  pub horizon : f.horizon ≤ 24
  pub fit : f ≡ fit_of m f.horizon
  pub bounder : IsBounderOf m b
  pub bounder_horizon : b.horizon ≡ f.horizon
  pub bounder_look : b.look ≡ opts.look
  pub best : IsLeastGreatest (joint_actions m) (constant_low_worth f.exact m opts.version f.horizon) w.action

-- the space of its fronts, by a branching rule
abbrev pub planner_space : Model → Fit → PlanOpts → (List Place → ℕ → Type 0) → Space
planner_space m fit opts May =
    front_space (arithmetic fit.exact m.scales) m fit.horizon opts.look opts.merge May
    (λ F. low_worth (arithmetic fit.exact m.scales) m opts.version fit.horizon (full_policy m F))

-- A front that a planner keeps: of the model and the horizon, with room.
pub record IsPlannerFront (m : Model) (h : ℕ) (k : KeptFront) : Type 0 where
  pub of_model : IsFrontOf m k
  pub horizon : k.horizon ≡ h
  pub room : has_room m h k.front ≡ true

-- A policy that a planner keeps: shared rows of the model over the horizon, plain in version 1 and a shared form in
-- version 2.
pub record IsPlannerPolicy (m : Model) (h version : ℕ) (p : HorizonRows) : Type 0 where
  pub horizon : p.horizon ≡ h
  pub shared : IsSharedOf m h p.rows
  pub plain : version ≡ 1 → IsPlain m h p.rows
  pub shared_form : version ≡ 2 → IsSharedForm m h p.rows

-- its low worth
abbrev pub planner_worth : Model → Fit → HorizonRows → ℤ
planner_worth m fit p = (shared_worth_in (arithmetic fit.exact m.scales) m fit.horizon p.rows).low

-- the most actions of an agent
abbrev pub widest : List ℕ → ℕ
widest [] = 0
widest (n ∷ ns) = max n (widest ns)
