-- The fronts that a search has made, and the room that it keeps. (Own.)
use Rattle.std.specs.Prelude.{◌≡◌, ◌<◌, ℕ, Bool, true, [], None, length, get_or, IfSome, Contains}
use Rattle.dp_spec.specs.Front.{Front}
use Rattle.dp_spec.specs.Mode.{is_exact_mode}
use Rattle.dp_spec.specs.Model.{Model}
use Rattle.dp_spec.specs.Qualities.{HasNoEquivalent}
use Rattle.dp_spec.specs.Steps.{root_front}
use Rattle.dp_pomdp.specs.Rooms.{IsRoomFor}
use Rattle.dp_game.specs.Games.{IsGameOf, KeptGame, own_choice}
use Rattle.dp_search.specs.declared.made_fronts.Entry.{Entry}
use Rattle.dp_search.specs.declared.made_fronts.MadeFront.{MadeFront}
use Rattle.dp_search.specs.declared.made_fronts.MadeFronts.{MadeFronts}
use Rattle.dp_search.specs.declared.making.Start.{Start}
use Rattle.dp_search.specs.declared.path.Choice.{Choice}
use Rattle.dp_search.specs.declared.room.SearchRoom.{SearchRoom}
use Rattle.dp_search.specs.FrontPlanners.{IsPlannerFront}
use Rattle.dp_search.specs.Paths.{path_front}

-- F was made, with its game if one is kept; where it is said to be settled and classes are merged, none of its
-- classes can be
pub record IsMadeFront (m : Model) (h look : ℕ) (merging : Bool) (F : Front) (made : MadeFront) : Type 0 where
  pub of_planner : IsPlannerFront m h made.front.value
  pub front : made.front.value.front ≡ F
  pub game : IfSome made.game (λ g. IsGameOf m h look F g.value)
  pub settled : made.settled ≡ true → merging ≡ true → is_exact_mode m h ≡ true → HasNoEquivalent m F

-- a front at which a step is made is F, and the same is known of it
pub record IsStart (m : Model) (h look : ℕ) (merging : Bool) (F : Front) (s : Start) : Type 0 where
  pub of_planner : IsPlannerFront m h s.front.value
  pub front : s.front.value.front ≡ F
  pub game : IfSome s.game (IsGameOf m h look F)
  pub settled : s.settled ≡ true → merging ≡ true → is_exact_mode m h ≡ true → HasNoEquivalent m F

-- the class of a choice is in a game and has no action there
pub record IsFreeIn (g : KeptGame) (c : Choice) : Type 0 where
  pub agent : c.agent < length g.choices
  pub class : c.class < length (get_or g.choices c.agent [])
  pub unassigned : own_choice g c.agent c.class ≡ None
  pub action : c.action < get_or g.actions c.agent 0

-- an entry is the front that its path leads to
abbrev pub IsEntry : Model → ℕ → ℕ → Bool → Entry → Type 0
IsEntry m h look merging e = IsMadeFront m h look merging (path_front m e.path.value) e.made

-- the fronts that are kept were made: the root, and those of the entries
pub record AreMade (m : Model) (h look : ℕ) (merging : Bool) (s : MadeFronts) : Type 0 where
  pub root : IsPlannerFront m h s.root.value
  pub root_front : s.root.value.front ≡ root_front m
  pub entries : (e : ℕ × Entry) → Contains s.entries.entries e → IsEntry m h look merging e.1

-- room to look ahead, and fronts that were made
pub record IsSearchRoom (e : Bool) (m : Model) (h look : ℕ) (merging : Bool) (r : SearchRoom) : Type 0 where
  pub look_room : IsRoomFor e m look r.look
  pub made : AreMade m h look merging r.made
