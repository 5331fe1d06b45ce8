-- The lists of a model that may have names.
use Rattle.std.specs.Prelude.{ℕ, ◌<◌, List, length, slice_index}
use Rattle.dp_model.specs.Names.{NameLists, names_of}
use Rattle.dp_model.specs.Tables.{NamedModel}
use Rattle.dp_writer.specs.declared.lists.ThingList.{ThingList}
use Rattle.dp_writer.specs.declared.lists.ThingList.TheVariants.{Agents, States, Actions, Observations}

-- the names of a list
abbrev pub names_in : NameLists → ThingList → List (List ℕ)
names_in names Agents = names.agents
names_in names States = names.states
names_in names (Actions i) = names_of names.actions i
names_in names (Observations i) = names_of names.observations i

-- how many things it has
abbrev pub count_in : NamedModel → ThingList → ℕ
count_in m Agents = length m.model.actions
count_in m States = m.model.states
count_in m (Actions i) = slice_index m.model.actions i
count_in m (Observations i) = slice_index m.model.observations i

-- the list is one of the model
abbrev pub IsListOf : NamedModel → ThingList → Type 0
IsListOf m Agents = Unit {0}
IsListOf m States = Unit {0}
IsListOf m (Actions i) = i < length m.model.actions
IsListOf m (Observations i) = i < length m.model.actions
