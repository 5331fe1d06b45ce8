-- The fronts that a search holds: each is the one that a path leads to. (Own.)
use Rattle.std.specs.Prelude.{◌≡◌, ℕ, ◌<◌, ◌≤◌, Bool, false, not, nat_lt, is_some, IfSome}
use Rattle.std.specs.Prelude.{All, map, length}
use Rattle.dp_spec.specs.Front.{Front}
use Rattle.dp_spec.specs.Model.{Model}
use Rattle.dp_spec.specs.Space.{Space}
use Rattle.dp_spec.specs.Steps.{is_complete}
use Rattle.dp_spec.specs.Wide.{is_wide}
use Rattle.dp_spec.specs.WholeTree.{HasChildren}
use Rattle.dp_search.specs.declared.held_front.HeldFront.{HeldFront}
use Rattle.dp_search.specs.declared.planner.Child.{Child}
use Rattle.dp_search.specs.declared.planner.Expanded.{Expanded}
use Rattle.dp_search.specs.Expansions.{mode_bound}
use Rattle.dp_search.specs.FrontPlanners.{IsPlannerFront}
use Rattle.dp_search.specs.Paths.{IsPath, path_front}

-- the front that a held one stands for
abbrev pub front_meant : Model → HeldFront → Front
front_meant m s = path_front m s.path.value

-- A front that a search holds is reached by steps that may be made, and what is kept of it is so. Before the horizon
-- it has a class without an action.
pub record IsHeldFront (m : Model) (h look : ℕ) (merging : Bool) (s : HeldFront) : Type 0 where
  pub path : IsPath m h merging s.path.value
  pub unfinished : (front_meant m s).stage < h → is_complete (front_meant m s).agents ≡ false
  pub is_full : is_some s.full ≡ not (nat_lt (front_meant m s).stage h)
  pub full : IfSome s.full (λ f. IsPlannerFront m h f.value)
  pub same : IfSome s.full (λ f. f.value.front ≡ front_meant m s)
  pub wide : s.wide ≡ is_wide m h 0 (front_meant m s)
  pub bound : s.bound ≡ mode_bound m h look (front_meant m s)

-- a held child has the bound of its front
pub record IsHeldChild (m : Model) (h look : ℕ) (merging : Bool) (c : Child HeldFront) : Type 0 where
  pub held : IsHeldFront m h look merging c.front
  pub bound : c.bound ≡ mode_bound m h look (front_meant m c.front)

-- A step with its children is an expansion of a front in a space: the step is allowed, the children are held fronts
-- of those after it in order, each with its bound, and they are at most `width`.
pub record IsExpansion (S : Space) (m : Model) (h look width : ℕ) (merging : Bool) (F : Front)
    (x : Expanded HeldFront) : Type 0 where
  pub of_planner : All (λ (c : Child HeldFront). IsHeldFront m h look merging c.front) x.children.items
  pub allowed : S.May F x.step
  pub fronts : map (λ (c : Child HeldFront). front_meant m c.front) x.children.items ≡ S.next F x.step
  pub bounds : All (λ (c : Child HeldFront). c.bound ≡ S.bound (front_meant m c.front)) x.children.items
  pub some : HasChildren x.step (length x.children.items)
  pub few : length x.children.items ≤ width
