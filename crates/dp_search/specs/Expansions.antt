-- The bounds of a planner's fronts, and its children. (Own.)
use Rattle.std.specs.Prelude.{◌≡◌, ℕ, ◌<◌, false, ℤ}
use Rattle.dp_spec.specs.Arithmetic.{arithmetic}
use Rattle.dp_spec.specs.Fitting.{front_bound}
use Rattle.dp_spec.specs.Front.{Front}
use Rattle.dp_spec.specs.Mode.{is_exact_mode}
use Rattle.dp_spec.specs.Model.{Model}
use Rattle.dp_spec.specs.Steps.{is_complete}
use Rattle.dp_cluster.specs.KeptFronts.{KeptFront}
use Rattle.dp_search.specs.declared.planner.Child.{Child}
use Rattle.dp_search.specs.FrontPlanners.{IsPlannerFront}

-- the bound of a front over a horizon of h steps, in the arithmetic of its mode
abbrev pub mode_bound : Model → ℕ → ℕ → Front → ℤ
mode_bound m h look F = front_bound (arithmetic (is_exact_mode m h) m.scales) m h look F

-- a child is a front of the planner with its bound, and before the horizon it has a class without an action
pub record IsChild (m : Model) (h look : ℕ) (c : Child KeptFront) : Type 0 where
  pub of_planner : IsPlannerFront m h c.front
  pub unfinished : c.front.front.stage < h → is_complete c.front.front.agents ≡ false
  pub bound : c.bound ≡ mode_bound m h look c.front.front
