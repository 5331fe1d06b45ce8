-- The paths of steps from the root front, and the fronts that they lead to. (Own.)
use Rattle.std.specs.Prelude.{◌≡◌, ℕ, ◌<◌, Bool, true, false, get_or}
use Rattle.dp_spec.specs.Front.{Front}
use Rattle.dp_spec.specs.Merge.{merged_front}
use Rattle.dp_spec.specs.Mode.{is_exact_mode}
use Rattle.dp_spec.specs.Model.{Model}
use Rattle.dp_spec.specs.Pairs.{IsPair}
use Rattle.dp_spec.specs.Qualities.{HasNoEquivalent}
use Rattle.dp_spec.specs.Steps.{IsUnassigned, front_after_choice, root_front}
use Rattle.dp_spec.specs.Wide.{is_wide}
use Rattle.dp_search.specs.declared.path.Choice.{Choice}
use Rattle.dp_search.specs.declared.path.Pair.{Pair}
use Rattle.dp_search.specs.declared.path.Path.{Path, Root, Chosen', Merged'}

-- the front that a path leads to
abbrev pub path_front : Model → Path → Front
path_front m Root = root_front m
path_front m (Chosen' p before number c) = front_after_choice m (path_front m before) c.agent c.class c.action
path_front m (Merged' p before number q) = merged_front (path_front m before) q.agent q.first q.second

-- A choice may be made at a front before the horizon that is not wide. Where classes are merged, none of its classes
-- can be.
pub record IsChoiceAt (m : Model) (h : ℕ) (merging : Bool) (F : Front) (c : Choice) : Type 0 where
  pub early : F.stage < h
  pub unassigned : IsUnassigned c.agent c.class F.agents
  pub action : c.action < get_or m.actions c.agent 0
  pub narrow : (above : ℕ) × (is_wide m h above F ≡ false)
  pub settled : merging ≡ true → is_exact_mode m h ≡ true → HasNoEquivalent m F

-- two classes may be merged at a front before the horizon, in exact mode
pub record IsMergeAt (m : Model) (h : ℕ) (F : Front) (q : Pair) : Type 0 where
  pub early : F.stage < h
  pub exact : is_exact_mode m h ≡ true
  pub pair : IsPair m F q.agent q.first q.second

-- each step of a path may be made where it is
abbrev pub IsPath : Model → ℕ → Bool → Path → Type 0
IsPath m h merging Root = Unit {0}
IsPath m h merging (Chosen' p before number c) =
    IsPath m h merging before × IsChoiceAt m h merging (path_front m before) c
IsPath m h merging (Merged' p before number q) = IsPath m h merging before × IsMergeAt m h (path_front m before) q
