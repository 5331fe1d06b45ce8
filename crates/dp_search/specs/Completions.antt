-- What becomes of a front where a policy below it is looked for, choice after choice. (Own.)
use Rattle.std.specs.Prelude.{◌≡◌, ℕ, suc, ◌<◌, ◌⊎◌, false, ℤ, Some}
use Rattle.dp_spec.specs.Front.{class_counts}
use Rattle.dp_spec.specs.Model.{Model}
use Rattle.dp_spec.specs.Wide.{unassigned_count, widens}
use Rattle.dp_cluster.specs.KeptFronts.{KeptFront}
use Rattle.dp_game.specs.Games.{KeptGame, game_bound, own_counts, with_own_choice}
use Rattle.dp_search.specs.FrontPlanning.{IsSearchFront}

-- the bound of a game after action a is chosen for class c of agent i
abbrev pub bound_after : KeptGame → ℕ → ℕ → ℕ → ℤ
bound_after g i c a = game_bound (with_own_choice g i c (Some a))

-- A game has the classes of a front of a model and the actions of its agents. Its choices may be others.
pub record HasClassesOf (m : Model) (k : KeptFront) (g : KeptGame) : Type 0 where
  pub counts : own_counts g.choices ≡ class_counts k.front.agents
  pub actions : g.actions ≡ m.actions

-- A front after some choices at stage f: it is at the next stage, or at the same one, where the front after its last
-- choice has room.
pub record IsUnderway (m : Model) (h f : ℕ) (k : KeptFront) : Type 0 where
  pub of_search : IsSearchFront m h k
  pub stage : (k.front.stage ≡ f) ⊎ (k.front.stage ≡ suc f)
  pub narrow : k.front.stage ≡ f → widens m h k.front ≡ false

-- Some class had no action before a choice. After it, at the same stage, one less has none, and the classes are those
-- of the game.
pub record HasFewerLeft (m : Model) (k : KeptFront) (g : KeptGame) (next : KeptFront) : Type 0 where
  pub some : 0 < unassigned_count k.front.agents
  pub fewer : next.front.stage ≡ k.front.stage
      → unassigned_count next.front.agents < unassigned_count k.front.agents
  pub classes : next.front.stage ≡ k.front.stage → HasClassesOf m next g
