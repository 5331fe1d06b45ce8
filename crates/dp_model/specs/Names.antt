-- The names of a model's agents, states, actions and observations.
use Rattle.std.specs.Prelude.{ℕ, ◌^◌, ◌≤◌, ◌≡◌, ◌≢◌, Bool, IsTrue, List, [], ◌∷◌, ◌++◌, Option, length, get_or}
use Rattle.std.specs.Prelude.{slice_set, position, replicate, All, AllPairs, if◌then◌else◌}
use Rattle.std.specs.List.{list_any}
use Rattle.std.specs.Str.{bytes_eq}
use Rattle.dp_base.specs.Names.{is_name}

-- the names of each kind, in order; a list without names was given as a count
pub record NameLists : Type 0 where
  pub agents : List (List ℕ)
  pub states : List (List ℕ)
  -- for each agent
  pub actions : List (List (List ℕ))
  pub observations : List (List (List ℕ))

-- of so many agents, each list given as a count
abbrev pub counts_of : ℕ → NameLists
counts_of agents = record {
  agents = [];
  states = [];
  actions = replicate agents [];
  observations =
      replicate agents [];
}

-- whether a list has the name
abbrev pub has_name : List (List ℕ) → List ℕ → Bool
has_name names name = list_any (bytes_eq name) names

-- the place of the name in a list
abbrev pub place_of : List (List ℕ) → List ℕ → Option ℕ
place_of names name = position (bytes_eq name) names

-- a list with the name: as it is where it has the name, and else with the name last
abbrev pub with_name : List (List ℕ) → List ℕ → List (List ℕ)
with_name names name = if has_name names name then names else names ++ name ∷ []

-- the list of agent i
abbrev pub names_of : List (List (List ℕ)) → ℕ → List (List ℕ)
names_of lists i = get_or lists i []

-- the lists of the agents, that of agent i with the name
abbrev pub with_name_of : List (List (List ℕ)) → ℕ → List ℕ → List (List (List ℕ))
with_name_of lists i name = slice_set lists i (with_name (names_of lists i) name)

-- ---- what holds of all names

-- its items are names, none of them stands twice, and there are at most 2^26
pub record IsNameList (names : List (List ℕ)) : Type 0 where
  pub are_names : All (λ name. IsTrue (is_name name)) names
  pub once : AllPairs (λ a b. a ≢ b) names
  pub limit : length names ≤ 2 ^ 26

-- the lists of all kinds are name lists, and there are as many lists of observations as of actions
pub record AreNames (names : NameLists) : Type 0 where
  pub agents : IsNameList names.agents
  pub states : IsNameList names.states
  pub actions : (i : ℕ) → IsNameList (names_of names.actions i)
  pub observations : (i : ℕ) → IsNameList (names_of names.observations i)
  pub alike : length names.observations ≡ length names.actions
