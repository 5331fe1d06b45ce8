-- Well-formed fronts: the lists have their lengths, every own history of the stage has a class, every class a
-- history, actions exist, and none is chosen where no step is left.
use Rattle.std.specs.Prelude.{ℕ, ◌^◌, ◌<◌, ◌≤◌, ◌≡◌, List, [], ◌∷◌, length, get_or, Some, None}
use Rattle.dp_spec.specs.Model.{Model}
use Rattle.dp_spec.specs.Front.{AgentFront, Front}

-- one agent's part of a front of stage f, for b actions and n observations
pub record IsAgentFront (b n f : ℕ) (d : AgentFront) : Type 0 where
  -- one list of fixed actions for each length below the stage, with one action for each own history of that length
  pub of_stage : length d.fixed ≡ f
  pub of_length : (t : ℕ) → t < f → length (get_or d.fixed t []) ≡ n ^ t
  pub fixed_below : (t x : ℕ) → t < f → x < n ^ t → get_or (get_or d.fixed t []) x 0 < b
  -- one class for each own history of the stage
  pub of_histories : length d.class_of ≡ n ^ f
  pub class_below : (x : ℕ) → x < n ^ f → get_or d.class_of x 0 < length d.chosen
  -- at least one history for each class
  pub member : (c : ℕ) → c < length d.chosen → (x : ℕ) × (x < n ^ f) × (get_or d.class_of x 0 ≡ c)
  pub chosen_below : (c a : ℕ) → c < length d.chosen → get_or d.chosen c None ≡ Some a → a < b

-- the agents' parts of a front of stage f, by how many actions and how many observations each agent has
pub data AreAgentFronts (f : ℕ) : List ℕ → List ℕ → List AgentFront → Type 0 where
  no_agents : AreAgentFronts f [] [] []
  and_agent : {b n : ℕ} {bs ns : List ℕ} {d : AgentFront} {ds : List AgentFront} → IsAgentFront b n f d
      → AreAgentFronts f bs ns ds → AreAgentFronts f (b ∷ bs) (n ∷ ns) (d ∷ ds)

-- no class of any agent has an action
abbrev pub NoneChosen : List AgentFront → Type 0
NoneChosen [] = Unit {0}
NoneChosen (d ∷ ds) = ((c : ℕ) → get_or d.chosen c None ≡ None) × NoneChosen ds

-- a front of a model, of a horizon of h steps
pub record IsFront (m : Model) (h : ℕ) (F : Front) : Type 0 where
  pub stage_limit : F.stage ≤ h
  pub agents : AreAgentFronts F.stage m.actions m.observations F.agents
  -- where no step is left there is nothing to choose
  pub none_at_end : F.stage ≡ h → NoneChosen F.agents

-- no two own histories of the stage are of one class, for agents with these numbers of observations
abbrev pub AreApart : ℕ → List ℕ → List AgentFront → Type 0
AreApart f [] ds = Unit {0}
AreApart f (n ∷ ns) [] = Unit {0}
AreApart f (n ∷ ns) (d ∷ ds) =
    ((x y : ℕ) → x < n ^ f → y < n ^ f → get_or d.class_of x 0 ≡ get_or d.class_of y 0 → x ≡ y) × AreApart f ns ds

-- no two own histories of an agent share a class, as where nothing was merged
abbrev pub KeepsHistoriesApart : Model → Front → Type 0
KeepsHistoriesApart m F = AreApart F.stage m.observations F.agents
