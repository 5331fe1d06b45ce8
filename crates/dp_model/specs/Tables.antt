-- A model with its names, as contracts see it.
use Rattle.std.specs.Prelude.{ℕ, ◌<◌, ◌≡◌, List, length, slice_index}
use Rattle.dp_spec.specs.Mode.{greatest_magnitude}
use Rattle.dp_spec.specs.Model.{IsModel, Model}
use Rattle.dp_spec.specs.declared.scales.Scales.{Scales}
use Rattle.dp_model.specs.declared.sizes.Sizes.{Sizes}
use Rattle.dp_model.specs.declared.sizes.Cells.{Cells}
use Rattle.dp_model.specs.Names.{NameLists, names_of}

-- a model, and the names of its agents, states, actions and observations
pub record NamedModel : Type 0 where
  pub model : Model
  pub names : NameLists

-- the model of these sizes, scales and tables
abbrev pub model_of_tables : Sizes → Scales → Cells → Model
model_of_tables sizes scales cells = record {
  states = sizes.states;
  actions = sizes.actions;
  observations = sizes.observations;
  scales = scales;
  start = cells.start;
  trans = cells.trans;
  obs = cells.obs;
  reward = cells.reward;
}

-- a list of names has one for each of n things, or none
abbrev pub NamesAllOrNone : List (List ℕ) → ℕ → Type 0
NamesAllOrNone names n = 0 < length names → length names ≡ n

-- the names are of the model's agents, and each list names all of its kind or none
pub record AreNamesOf (m : Model) (names : NameLists) : Type 0 where
  pub action_lists : length names.actions ≡ length m.actions
  pub observation_lists : length names.observations ≡ length m.actions
  pub agents : NamesAllOrNone names.agents (length m.actions)
  pub states : NamesAllOrNone names.states m.states
  pub actions : (i : ℕ) → i < length m.actions → NamesAllOrNone (names_of names.actions i) (slice_index m.actions i)
  pub observations : (i : ℕ) → i < length m.actions
      → NamesAllOrNone (names_of names.observations i) (slice_index m.observations i)

-- what every model with names keeps
pub record IsNamedModel (m : NamedModel) : Type 0 where
  pub model : IsModel m.model
  pub names : AreNamesOf m.model m.names

-- the same, with the greatest magnitude of a reward kept beside the model
pub record IsStoredModel (m : NamedModel) (greatest : ℕ) : Type 0 where
  pub named : IsNamedModel m
  pub greatest_reward : greatest ≡ greatest_magnitude m.model.reward
