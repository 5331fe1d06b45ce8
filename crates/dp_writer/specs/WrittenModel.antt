-- The text that is written of a model. (Own.)
use Rattle.std.specs.Prelude.{ℕ, ℤ, pos, Bool, ◌==◌, if◌then◌else◌, List, [], ◌∷◌, ◌++◌, map, codes, length}
use Rattle.std.specs.Prelude.{slice_index}
use Rattle.std.specs.Fmt.{decimal}
use Rattle.std.specs.List.{flat_map, list_all, range_with_len}
use Rattle.std.specs.Ordering.{int_eq}
use Rattle.dp_spec.specs.JointNumbers.{parts_of}
use Rattle.dp_spec.specs.Model.{Model, joint_actions, reward_at}
use Rattle.dp_model.specs.Names.{names_of}
use Rattle.dp_model.specs.Tables.{NamedModel}
use Rattle.dp_writer.specs.declared.rows.ChanceTable.{ChanceTable}
use Rattle.dp_writer.specs.declared.rows.ChanceTable.TheVariants.{Next, Seen}
use Rattle.dp_writer.specs.ModelRows.{each_below, start_row, scale_of_table, chance_row}
use Rattle.dp_writer.specs.ModelRows.{reward_row, reward_rows}
use Rattle.dp_writer.specs.WrittenNumbers.{decimal_over, decimal_text}
use Rattle.dp_writer.specs.WrittenLines.{Words, lines_text}

-- ---- numbers

-- a chance, or the discount: at most 18 fraction digits
abbrev pub chance_word : ℕ → ℕ → List ℕ
chance_word scale n = decimal_text (decimal_over 18 (pos n) scale)

-- a reward: at most 9 fraction digits
abbrev pub reward_word : ℕ → ℤ → List ℕ
reward_word scale r = decimal_text (decimal_over 9 r scale)

-- all cells of a row are equal
abbrev pub are_equal : List ℕ → Bool
are_equal cells = list_all (λ n. n == slice_index cells 0) cells

-- a row of chances: `uniform` where all its cells are equal, and else its decimals
unfoldable pub row_words : ℕ → List ℕ → Words
row_words scale cells = if are_equal cells then codes "uniform" ∷ [] else map (chance_word scale) cells

-- ---- the header

-- a list by its names, or by its count where it has none
abbrev pub list_words : List (List ℕ) → ℕ → Words
list_words [] count = decimal count ∷ []
list_words (name ∷ names) count = name ∷ names

-- for each agent a line of its list, of which there is a count and, where it has them, names
abbrev pub agent_lines : List (List (List ℕ)) → List ℕ → List Words
agent_lines lists counts = each_below (λ i. list_words (names_of lists i) (slice_index counts i)) (length counts)

-- the header, its entries in this order
unfoldable pub header_lines : NamedModel → List Words
header_lines m =
    (codes "agents:" ∷ list_words m.names.agents (length m.model.actions))
    ∷ (codes "discount:" ∷ chance_word m.model.scales.discount m.model.scales.gain ∷ [])
    ∷ (codes "values:" ∷ codes "reward" ∷ [])
    ∷ (codes "states:" ∷ list_words m.names.states m.model.states)
    ∷ (codes "start:" ∷ [])
    ∷ row_words m.model.scales.start (start_row m.model)
    ∷ (codes "actions:" ∷ [])
    ∷ (agent_lines m.names.actions m.model.actions
    ++ (codes "observations:" ∷ []) ∷ agent_lines m.names.observations m.model.observations)

-- ---- the statements

-- the first words of a statement of joint action a and state s: each agent's action by its number, and the state
abbrev pub statement_words : Model → List ℕ → ℕ → ℕ → Words
statement_words m table a s =
    table ∷ (map decimal (parts_of m.actions a) ++ codes ":" ∷ decimal s ∷ codes ":" ∷ [])

-- the word of a table
abbrev pub table_word : ChanceTable → List ℕ
table_word Next = codes "T:"
table_word Seen = codes "O:"

-- a row of chances, behind the line that says which
abbrev pub chance_lines : Model → ChanceTable → ℕ → ℕ → List Words
chance_lines m table a s =
    statement_words m (table_word table) a s ∷ row_words (scale_of_table m table) (chance_row m table a s) ∷ []

-- all rewards of a joint action and a state are this one
abbrev pub is_only_reward : ℤ → List (List ℤ) → Bool
is_only_reward r rows = list_all (λ row. list_all (λ x. int_eq x r) row) rows

-- where all of them are equal, one line, and none where that reward is 0
abbrev pub one_reward_lines : Model → ℕ → ℕ → ℤ → List Words
one_reward_lines m a s r =
    if int_eq r (pos 0) then [] else (statement_words m (codes "R:") a s
    ++ codes "*" ∷ codes ":" ∷ codes "*" ∷ codes ":" ∷ reward_word m.scales.reward r ∷ []) ∷ []

-- the rewards, a line for each next state
abbrev pub matrix_lines : Model → ℕ → ℕ → List Words
matrix_lines m a s = each_below (λ t. map (reward_word m.scales.reward) (reward_row m a s t)) m.states

-- one reward where all are equal, and else all of them
unfoldable pub reward_lines : Model → ℕ → ℕ → List Words
reward_lines m a s =
    if is_only_reward (reward_at m a s 0 0) (reward_rows m a s) then one_reward_lines m a s (reward_at m a s 0 0)
    else statement_words m (codes "R:") a s ∷ matrix_lines m a s

-- what is written for each joint action and state, by joint action and state
abbrev pub lines_by_state : Model → (ℕ → ℕ → List Words) → List Words
lines_by_state m lines = flat_map (λ a. flat_map (lines a) (range_with_len 0 m.states))
    (range_with_len 0 (joint_actions m))

-- ---- all of it

-- the header, the transitions, the observations, the rewards
unfoldable pub written_lines : NamedModel → List Words
written_lines m =
    header_lines m
    ++ (lines_by_state m.model (chance_lines m.model Next)
    ++ (lines_by_state m.model (chance_lines m.model Seen) ++ lines_by_state m.model (reward_lines m.model)))

-- the text of a model
unfoldable pub written_model : NamedModel → List ℕ
written_model m = lines_text (written_lines m)
