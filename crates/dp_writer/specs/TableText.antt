-- The text of a model's tables, which tells a whole model in the whole numbers of its tables. (Own.)
use Rattle.std.specs.Prelude.{ℕ, List, [], ◌∷◌, ◌++◌, map, length, slice_get, slice_index, unwrap_or, codes}
use Rattle.std.specs.Prelude.{if◌then◌else◌}
use Rattle.std.specs.Fmt.{decimal, signed_decimal}
use Rattle.std.specs.List.{flat_map, range_with_len}
use Rattle.dp_spec.specs.Model.{Model, reward_at}
use Rattle.dp_model.specs.Names.{names_of}
use Rattle.dp_model.specs.Tables.{NamedModel}
use Rattle.dp_writer.specs.declared.rows.ChanceTable.{ChanceTable}
use Rattle.dp_writer.specs.declared.rows.ChanceTable.TheVariants.{Next, Seen}
use Rattle.dp_writer.specs.ModelRows.{chance_row, each_below, reward_row, reward_rows, start_row}
use Rattle.dp_writer.specs.WrittenLines.{Words, lines_text}
use Rattle.dp_writer.specs.WrittenModel.{is_only_reward, lines_by_state}

-- ---- the head: sizes, scales and names

-- the name of a thing of a list, or its number where the list was given as a count
abbrev pub name_word : List (List ℕ) → ℕ → List ℕ
name_word names i = unwrap_or (slice_get names i) (decimal i)

-- the names of so many things
abbrev pub name_words : List (List ℕ) → ℕ → Words
name_words names count = each_below (name_word names) count

-- the lines of agent i: its name, its actions, its observations
abbrev pub agent_table_lines : NamedModel → ℕ → List Words
agent_table_lines m i =
    (codes "agent" ∷ name_word m.names.agents i ∷ [])
    ∷ (codes "actions" ∷ name_words (names_of m.names.actions i) (slice_index m.model.actions i))
    ∷ (codes "observations" ∷ name_words (names_of m.names.observations i) (slice_index m.model.observations i))
    ∷ []

-- the first lines; the discount is over its scale, and the other scales follow, as they stand in the tables: of the
-- start, the transitions, the observations and the rewards
unfoldable pub first_lines : NamedModel → ℕ → List Words
first_lines m repaired =
    let scales = m.model.scales in
    (codes "decplan" ∷ codes "model" ∷ codes "1" ∷ [])
    ∷ (codes "repaired" ∷ decimal repaired ∷ [])
    ∷ (codes "discount" ∷ decimal scales.gain ∷ decimal scales.discount ∷ [])
    ∷ (codes "scales" ∷ decimal scales.start ∷ decimal scales.trans ∷ decimal scales.obs ∷ decimal scales.reward ∷ [])
    ∷ (codes "states" ∷ name_words m.names.states m.model.states)
    ∷ []

-- ---- the tables

-- the chances to start in each state
abbrev pub start_line : Model → Words
start_line m = codes "start" ∷ map decimal (start_row m)

-- the word of a table of chances
abbrev pub chances_word : ChanceTable → List ℕ
chances_word Next = codes "T"
chances_word Seen = codes "O"

-- the row of a joint action and a state
abbrev pub chances_line : Model → ChanceTable → ℕ → ℕ → Words
chances_line m table a s = chances_word table ∷ decimal a ∷ decimal s ∷ map decimal (chance_row m table a s)

abbrev pub chances_lines : Model → ChanceTable → ℕ → ℕ → List Words
chances_lines m table a s = chances_line m table a s ∷ []

-- the rewards of a joint action and a state where a state follows
abbrev pub rewards_line : Model → ℕ → ℕ → ℕ → Words
rewards_line m a s t = codes "R" ∷ decimal a ∷ decimal s ∷ decimal t ∷ map signed_decimal (reward_row m a s t)

-- the rewards of a joint action and a state: one line where all are equal, and else one for each next state
unfoldable pub rewards_lines : Model → ℕ → ℕ → List Words
rewards_lines m a s =
    if is_only_reward (reward_at m a s 0 0) (reward_rows m a s)
    then (codes "Q" ∷ decimal a ∷ decimal s ∷ signed_decimal (reward_at m a s 0 0) ∷ []) ∷ []
    else each_below (rewards_line m a s) m.states

-- ---- all of it

unfoldable pub table_lines : NamedModel → ℕ → List Words
table_lines m repaired =
    first_lines m repaired
    ++ (flat_map (agent_table_lines m) (range_with_len 0 (length m.model.actions))
    ++ (start_line m.model
    ∷ (lines_by_state m.model (chances_lines m.model Next)
    ++ (lines_by_state m.model (chances_lines m.model Seen)
    ++ (lines_by_state m.model (rewards_lines m.model) ++ (codes "end" ∷ []) ∷ [])))))

-- the text of the tables of a model of whose rows so many were repaired
unfoldable pub table_text : NamedModel → ℕ → List ℕ
table_text m repaired = lines_text (table_lines m repaired)
