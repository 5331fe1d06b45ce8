-- The items of the text that is written of a model, by their symbols.
use Rattle.std.proofs.Common.{◌≡◌, ℕ, ◌<◌, Bool, true, false, cond, ℤ, pos, List, [], ◌∷◌}
use Rattle.std.proofs.Common.{◌++◌, length, map, refl, sym, arith, subst}
use Rattle.std.specs.Prelude.{codes, if◌then◌else◌, slice_index}
use Rattle.std.specs.Fmt.{decimal}
use Rattle.std.specs.List.{flat_map, range_with_len}
use Rattle.std.specs.Ordering.{int_eq}
use Rattle.std.proofs.lemmas.Grind.{flat_map-append}
use Rattle.std.proofs.lemmas.List.{append-nil}
use Rattle.dp_base.specs.DecimalShape.{is_decimal}
use Rattle.dp_lexer.specs.declared.Kind.TheVariants.{Word, Number}
use Rattle.dp_spec.specs.JointNumbers.{parts_of}
use Rattle.dp_spec.specs.Model.{Model, joint_actions, reward_at}
use Rattle.dp_model.specs.Names.{names_of}
use Rattle.dp_model.specs.Tables.{NamedModel}
use Rattle.dp_meaning.specs.Items.{is_colon}
use Rattle.dp_meaning.proofs.Each.{Each, each_append}
use Rattle.dp_writer.specs.declared.rows.ChanceTable.{ChanceTable}
use Rattle.dp_writer.specs.declared.rows.ChanceTable.TheVariants.{Next, Seen}
use Rattle.dp_writer.specs.ModelRows.{start_row, scale_of_table, chance_row, reward_rows}
use Rattle.dp_writer.specs.WrittenLines.{Words}
use Rattle.dp_writer.specs.WrittenModel.{agent_lines, chance_word, header_lines, is_only_reward}
use Rattle.dp_writer.specs.WrittenModel.{list_words, matrix_lines, reward_word, row_words}
use Rattle.dp_writer.proofs.Ranges.{IsJoined, each_range}
use Rattle.dp_writer.proofs.ReadPieces.{list_runs}
use Rattle.dp_writer.proofs.SpelledLines.{AreLinesOf, IsLineOf, labelled_line}
use Rattle.dp_writer.proofs.SpelledLines.{lines_append, runs_line}
use Rattle.dp_writer.proofs.Symbols.{IsRun, Symbol, colon_symbol, run_symbol, star_symbol}
use Rattle.dp_writer.proofs.SymbolItems.{IsSymbolItem, SymbolItem, begins, item_lines}
use Rattle.dp_writer.proofs.WrittenFacts.{IsWritableModel, actions_list, agents_list, discount_number}
use Rattle.dp_writer.proofs.WrittenFacts.{observations_list, row_runs, start_written}
use Rattle.dp_writer.proofs.WrittenFacts.{states_list}

-- ---- items

-- an item of names and numbers: its word with a Colon, what stands behind it, and the lines below
abbrev pub word_item : List ℕ → Words → List Words → SymbolItem
word_item word words more = record {
  first = run_symbol word ∷ colon_symbol ∷ map run_symbol words;
  more = map (map run_symbol) more;
}

-- the entries of the header
abbrev pub header_items : NamedModel → List SymbolItem
header_items m =
    word_item (codes "agents") (list_words m.names.agents (length m.model.actions)) []
    ∷ word_item (codes "discount") (chance_word m.model.scales.discount m.model.scales.gain ∷ []) []
    ∷ word_item (codes "values") (codes "reward" ∷ []) []
    ∷ word_item (codes "states") (list_words m.names.states m.model.states) []
    ∷ word_item (codes "start") [] (row_words m.model.scales.start (start_row m.model) ∷ [])
    ∷ word_item (codes "actions") [] (agent_lines m.names.actions m.model.actions)
    ∷ word_item (codes "observations") [] (agent_lines m.names.observations m.model.observations) ∷ []

-- the fields of a joint action and a state
abbrev pub field_symbols : List ℕ → ℕ → List Symbol
field_symbols parts s =
    map run_symbol (map decimal parts) ++ colon_symbol ∷ run_symbol (decimal s) ∷ colon_symbol ∷ []

-- a statement of a joint action and a state: what stands behind these fields, and the lines below
abbrev pub statement_item : Model → List ℕ → ℕ → ℕ → List Symbol → List Words → SymbolItem
statement_item m word a s rest more = record {
  first = run_symbol word ∷ colon_symbol ∷ (field_symbols (parts_of m.actions a) s ++ rest);
  more = map (map run_symbol) more;
}

-- the letter of a table
abbrev pub table_letter : ChanceTable → List ℕ
table_letter Next = codes "T"
table_letter Seen = codes "O"

-- a row of chances
abbrev pub chance_items : Model → ChanceTable → ℕ → ℕ → List SymbolItem
chance_items m table a s =
    statement_item m (table_letter table) a s []
    (row_words (scale_of_table m table) (chance_row m table a s) ∷ []) ∷ []

-- the fields of any next state and any joint observation, and a reward
abbrev pub any_symbols : List ℕ → List Symbol
any_symbols reward = star_symbol ∷ colon_symbol ∷ star_symbol ∷ colon_symbol ∷ run_symbol reward ∷ []

-- one reward, where it is not 0
abbrev pub one_reward_items : Model → ℕ → ℕ → ℤ → List SymbolItem
one_reward_items m a s r =
    if int_eq r (pos 0) then [] else statement_item m (codes "R") a s
    (any_symbols (reward_word m.scales.reward r)) [] ∷ []

-- the rewards of a joint action and a state
abbrev pub reward_items : Model → ℕ → ℕ → List SymbolItem
reward_items m a s =
    if is_only_reward (reward_at m a s 0 0) (reward_rows m a s) then one_reward_items m a s (reward_at m a s 0 0)
    else statement_item m (codes "R") a s [] (matrix_lines m a s) ∷ []

-- what stands for each joint action and state
abbrev pub by_state : {X : Type 0} → Model → (ℕ → ℕ → List X) → List X
by_state m of = flat_map (λ a. flat_map (of a) (range_with_len 0 m.states)) (range_with_len 0 (joint_actions m))

-- the statements
abbrev pub statement_items : Model → List SymbolItem
statement_items m =
    by_state m (chance_items m Next) ++ (by_state m (chance_items m Seen) ++ by_state m (reward_items m))

-- ---- their lines

-- lines that are read as items
pub record AreItemLines (lines : List Words) (items : List SymbolItem) : Type 0 where
  pub lines_are : AreLinesOf lines (flat_map item_lines items)
  pub items_are : Each IsSymbolItem items

pub items_joined : IsJoined AreItemLines
items_joined = record {
  none = record { lines_are = tt; items_are = tt };
  joined = λ lines more items others a b. record {
    lines_are = subst (AreLinesOf (lines ++ more)) (sym (flat_map-append item_lines items others))
        (lines_append lines more (flat_map item_lines items) (flat_map item_lines others) a.lines_are b.lines_are);
    items_are = each_append IsSymbolItem items others a.items_are b.items_are;
  };
}

-- a line of words and numbers begins no item
runs_begin_none : (words : Words) → begins (map run_symbol words) ≡ false
runs_begin_none [] = refl
runs_begin_none (word ∷ []) = refl
runs_begin_none (word ∷ second ∷ words) = by (is_decimal second)
  where
    by : (b : Bool) → is_colon (cond b Number Word) ≡ false
    by true = refl
    by false = refl

pub none_begin : (lines : List Words) → Each (λ line. begins line ≡ false) (map (map run_symbol) lines)
none_begin [] = tt
none_begin (words ∷ lines) = (runs_begin_none words, none_begin lines)

-- lines of names and numbers, of which none is empty
pub record AreRunLines (lines : List Words) : Type 0 where
  pub lines_are : AreLinesOf lines (map (map run_symbol) lines)

IsRunLine : Words → Type 0
IsRunLine words = (0 < length words) × Each IsRun words

pub run_lines : (lines : List Words) → Each (λ words. (0 < length words) × Each IsRun words) lines
    → AreLinesOf lines (map (map run_symbol) lines)
run_lines [] each = tt
run_lines (words ∷ lines) each = (runs_line words each.0.0 each.0.1, run_lines lines each.1)

-- ---- the header

list_words_some : (names : List (List ℕ)) (n : ℕ) → 0 < length (list_words names n)
list_words_some [] n = omega arith
list_words_some (name ∷ names) n = omega arith

word_is : (text : List ℕ) → IsRun text → (words : Words) → Each IsRun words → IsLineOf ((text ++ 58 ∷ []) ∷ words)
    (run_symbol text ∷ colon_symbol ∷ map run_symbol words)
word_is text run words runs = labelled_line text words run runs

module _ (m : NamedModel) (can : IsWritableModel m) where
  actions_lines : AreLinesOf (agent_lines m.names.actions m.model.actions)
      (map (map run_symbol) (agent_lines m.names.actions m.model.actions))
  actions_lines = run_lines (agent_lines m.names.actions m.model.actions)
      (each_range (λ words. (0 < length words) × Each IsRun words)
      (λ i. list_words (names_of m.names.actions i) (slice_index m.model.actions i)) 0 (length m.model.actions)
      (λ i below. (
        list_words_some (names_of m.names.actions i) (slice_index m.model.actions i),
        list_runs (names_of m.names.actions i) (slice_index m.model.actions i)
            (actions_list m can i (omega (arith, below))),
      )))

  observations_lines : AreLinesOf (agent_lines m.names.observations m.model.observations)
      (map (map run_symbol) (agent_lines m.names.observations m.model.observations))
  observations_lines = run_lines (agent_lines m.names.observations m.model.observations)
      (each_range (λ words. (0 < length words) × Each IsRun words)
      (λ i. list_words (names_of m.names.observations i) (slice_index m.model.observations i)) 0
      (length m.model.observations)
      (λ i below. (
        list_words_some (names_of m.names.observations i) (slice_index m.model.observations i),
        list_runs (names_of m.names.observations i) (slice_index m.model.observations i)
            (observations_list m can i (omega (arith, below))),
      )))

  pub header_read : AreItemLines (header_lines m) (header_items m)
  unfolding header_lines
  header_read = record {
    lines_are = (
      labelled_line (codes "agents") (list_words m.names.agents (length m.model.actions))
          (record { some = omega arith; named = refl })
          (list_runs m.names.agents (length m.model.actions) (agents_list m can)),
      (
        labelled_line (codes "discount") (chance_word m.model.scales.discount m.model.scales.gain ∷ [])
            (record { some = omega arith; named = refl })
            ((discount_number m can).run, tt),
        (
          labelled_line (codes "values") (codes "reward" ∷ []) (record { some = omega arith; named = refl })
              (record { some = omega arith; named = refl }, tt),
          (
            labelled_line (codes "states") (list_words m.names.states m.model.states)
                (record { some = omega arith; named = refl })
                (list_runs m.names.states m.model.states (states_list m can)),
            (
              labelled_line (codes "start") [] (record { some = omega arith; named = refl }) tt,
              (
                runs_line (row_words m.model.scales.start (start_row m.model))
                    (row_runs m.model.scales.start (start_row m.model) (start_written m can)).0
                    (row_runs m.model.scales.start (start_row m.model) (start_written m can)).1,
                (
                  labelled_line (codes "actions") [] (record { some = omega arith; named = refl }) tt,
                  lines_append (agent_lines m.names.actions m.model.actions)
                      ((codes "observations:" ∷ []) ∷ agent_lines m.names.observations m.model.observations)
                      (map (map run_symbol) (agent_lines m.names.actions m.model.actions)) _ actions_lines (
                        labelled_line (codes "observations") [] (record { some = omega arith; named = refl }) tt,
                        subst (AreLinesOf (agent_lines m.names.observations m.model.observations))
                            (sym (append-nil
                            (map (map run_symbol) (agent_lines m.names.observations m.model.observations))))
                            observations_lines,
                      ),
                ),
              ),
            ),
          ),
        ),
      ),
    );
    items_are = (
      record { first = refl; more = tt },
      (
        record { first = refl; more = tt },
        (
          record { first = refl; more = tt },
          (
            record { first = refl; more = tt },
            (
              record { first = refl; more = none_begin (row_words m.model.scales.start (start_row m.model) ∷ []) },
              (
                record { first = refl; more = none_begin (agent_lines m.names.actions m.model.actions) },
                (
                  record { first = refl; more = none_begin (agent_lines m.names.observations m.model.observations) },
                  tt,
                ),
              ),
            ),
          ),
        ),
      ),
    );
  }
