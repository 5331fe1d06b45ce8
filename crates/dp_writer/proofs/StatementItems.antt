-- The lines of the statements that are written of a model, and all lines, are read as their items.
use Rattle.std.proofs.Common.{ℕ, ◌<◌, ◌≤◌, ◌^◌, ◌%◌, Bool, true, false, cond, ℤ, pos, List, []}
use Rattle.std.proofs.Common.{◌∷◌, ◌++◌, length, map, refl, sym, arith, subst}
use Rattle.std.specs.Prelude.{codes}
use Rattle.std.specs.Fmt.{decimal}
use Rattle.std.specs.List.{flat_map, range_with_len}
use Rattle.std.specs.Ordering.{int_eq}
use Rattle.std.proofs.lemmas.List.{append-nil}
use Rattle.std.proofs.Math.Nat.{div-le_self, mod-le}
use Rattle.dp_spec.specs.JointNumbers.{parts_of, product}
use Rattle.dp_spec.specs.Model.{Model, IsModel, joint_actions, joint_observations, reward_at}
use Rattle.dp_spec.proofs.ModelLaws.{some_joint_observation}
use Rattle.dp_model.specs.Tables.{NamedModel}
use Rattle.dp_meaning.proofs.Each.{Each, each_from}
use Rattle.dp_writer.specs.declared.rows.ChanceTable.{ChanceTable}
use Rattle.dp_writer.specs.declared.rows.ChanceTable.TheVariants.{Next, Seen}
use Rattle.dp_writer.specs.ModelRows.{scale_of_table, chance_row, reward_row, reward_rows}
use Rattle.dp_writer.specs.WrittenLines.{Words}
use Rattle.dp_writer.specs.WrittenModel.{chance_lines, header_lines, is_only_reward, lines_by_state, matrix_lines}
use Rattle.dp_writer.specs.WrittenModel.{reward_lines, reward_word, row_words, statement_words}
use Rattle.dp_writer.specs.WrittenModel.{written_lines, written_model}
use Rattle.dp_writer.proofs.Ranges.{IsJoined, each_range, over_range}
use Rattle.dp_writer.proofs.RowCells.{length_each}
use Rattle.dp_writer.proofs.SpelledLines.{AreLinesOf, AreSpelled, IsLineOf, colon_spelled, labelled_spelled}
use Rattle.dp_writer.proofs.SpelledLines.{line_spelled, none_spelled, run_spelled, runs_line, runs_spelled}
use Rattle.dp_writer.proofs.SpelledLines.{star_spelled, word_spelled, words_spelled}
use Rattle.dp_writer.proofs.Symbols.{IsRun, Symbol, colon_symbol, run_symbol, star_symbol}
use Rattle.dp_writer.proofs.SymbolItems.{HasItems, items_read}
use Rattle.dp_writer.proofs.WordShapes.{index_written}
use Rattle.dp_writer.proofs.WrittenFacts.{IsWritableModel, reward_number_of, row_runs, row_written}
use Rattle.dp_writer.proofs.WrittenItems.{AreItemLines, any_symbols, by_state, chance_items, field_symbols}
use Rattle.dp_writer.proofs.WrittenItems.{header_items}
use Rattle.dp_writer.proofs.WrittenItems.{header_read, items_joined, none_begin, reward_items, run_lines}
use Rattle.dp_writer.proofs.WrittenItems.{statement_item, statement_items}

-- ---- fields

-- no part is past the joint number
pub parts_within : (ns : List ℕ) (x : ℕ) → Each (λ p. p ≤ x) (parts_of ns x)
parts_within [] x = tt
parts_within (n ∷ ns) x = (
  div-le_self x (product ns),
  each_from (λ p. p ≤ x % product ns) (λ p. p ≤ x) (λ p h. omega (arith, h, mod-le x (product ns)))
      (parts_of ns (x % product ns)) (parts_within ns (x % product ns)),
)

indices_run : (ps : List ℕ) → Each (λ p. p < 10 ^ 64) ps → Each IsRun (map decimal ps)
indices_run [] small = tt
indices_run (p ∷ ps) small = ((index_written p small.0).run, indices_run ps small.1)

-- the fields of a joint action and a state
fields_spelled : (parts : List ℕ) (s : ℕ) → Each (λ p. p < 10 ^ 64) parts → s < 10 ^ 64
    → AreSpelled (map decimal parts ++ codes ":" ∷ decimal s ∷ codes ":" ∷ []) (field_symbols parts s)
fields_spelled parts s small below =
    words_spelled (map decimal parts) (codes ":" ∷ decimal s ∷ codes ":" ∷ []) (map run_symbol (map decimal parts))
    (colon_symbol ∷ run_symbol (decimal s) ∷ colon_symbol ∷ [])
    (runs_spelled (map decimal parts) (indices_run parts small))
    (word_spelled (codes ":") (decimal s ∷ codes ":" ∷ []) (colon_symbol ∷ [])
    (run_symbol (decimal s) ∷ colon_symbol ∷ []) colon_spelled
    (word_spelled (decimal s) (codes ":" ∷ []) (run_symbol (decimal s) ∷ []) (colon_symbol ∷ [])
    (run_spelled (decimal s) ((index_written s below).run))
    (word_spelled (codes ":") [] (colon_symbol ∷ []) [] colon_spelled none_spelled)))

-- the fields of any next state and any joint observation, and a reward
any_spelled : (reward : List ℕ) → IsRun reward
    → AreSpelled (codes "*" ∷ codes ":" ∷ codes "*" ∷ codes ":" ∷ reward ∷ []) (any_symbols reward)
any_spelled reward run =
    word_spelled (codes "*") _ (star_symbol ∷ []) _ star_spelled
    (word_spelled (codes ":") _ (colon_symbol ∷ []) _ colon_spelled
    (word_spelled (codes "*") _ (star_symbol ∷ []) _ star_spelled
    (word_spelled (codes ":") _ (colon_symbol ∷ []) _ colon_spelled
    (word_spelled reward [] (run_symbol reward ∷ []) [] (run_spelled reward run) none_spelled))))

module _ (m : Model) (is : IsModel m) (a s : ℕ) (action : a < joint_actions m) (state : s < m.states) where
  -- the joint action's parts and the state are small
  small_parts : Each (λ p. p < 10 ^ 64) (parts_of m.actions a)
  small_parts = each_from (λ p. p ≤ a) (λ p. p < 10 ^ 64)
      (λ p h. omega (arith, h, action, is.sizes.joint_actions_limit)) (parts_of m.actions a)
      (parts_within m.actions a)

  -- the first line of a statement
  statement_line : (word : List ℕ) (rest : Words) (more : List Symbol) → IsRun word → AreSpelled rest more
      → IsLineOf (statement_words m (word ++ 58 ∷ []) a s ++ rest)
      (run_symbol word ∷ colon_symbol ∷ (field_symbols (parts_of m.actions a) s ++ more))
  statement_line word rest more run spelled =
      line_spelled (word ++ 58 ∷ []) ((map decimal (parts_of m.actions a) ++ codes ":" ∷ decimal s ∷ codes ":" ∷ []) ++ rest)
      (run_symbol word ∷ colon_symbol ∷ []) (field_symbols (parts_of m.actions a) s ++ more)
      (labelled_spelled word run)
      (words_spelled (map decimal (parts_of m.actions a) ++ codes ":" ∷ decimal s ∷ codes ":" ∷ []) rest
      (field_symbols (parts_of m.actions a) s) more
      (fields_spelled (parts_of m.actions a) s small_parts (omega (arith, state, is.sizes.states_limit))) spelled)

  -- with nothing behind its fields
  fields_line : (word : List ℕ) → IsRun word
      → IsLineOf (statement_words m (word ++ 58 ∷ []) a s)
      (run_symbol word ∷ colon_symbol ∷ (field_symbols (parts_of m.actions a) s ++ []))
  fields_line word run = subst (λ words. IsLineOf words
      (run_symbol word ∷ colon_symbol ∷ (field_symbols (parts_of m.actions a) s ++ [])))
      (append-nil (statement_words m (word ++ 58 ∷ []) a s)) (statement_line word [] [] run none_spelled)

-- ---- rows of chances

module _ (m : NamedModel) (can : IsWritableModel m) (a s : ℕ) (action : a < joint_actions m.model)
    (state : s < m.model.states) where
  chance_read_of : (table : ChanceTable) (word : List ℕ) → IsRun word
      → AreItemLines (statement_words m.model (word ++ 58 ∷ []) a s
      ∷ row_words (scale_of_table m.model table) (chance_row m.model table a s) ∷ [])
      (statement_item m.model word a s []
      (row_words (scale_of_table m.model table) (chance_row m.model table a s) ∷ [])
      ∷ [])
  chance_read_of table word run =
      let words = row_words (scale_of_table m.model table) (chance_row m.model table a s) in
      let runs = row_runs (scale_of_table m.model table) (chance_row m.model table a s)
      (row_written m can table a s action state) in
      record {
        lines_are =
            (fields_line m.model can.named.model a s action state word run, (runs_line words runs.0 runs.1, tt));
        items_are = (record { first = refl; more = none_begin (words ∷ []) }, tt);
      }

  -- the row of a joint action and a state
  chance_read : (table : ChanceTable) → AreItemLines (chance_lines m.model table a s) (chance_items m.model table a s)
  chance_read Next = chance_read_of Next (codes "T") (record { some = omega arith; named = refl })
  chance_read Seen = chance_read_of Seen (codes "O") (record { some = omega arith; named = refl })

  -- ---- rewards

  rewards_run : (t : ℕ) → Each IsRun (map (reward_word m.model.scales.reward) (reward_row m.model a s t))
  rewards_run t = mapped (reward_row m.model a s t)
      (each_range (λ r. IsRun (reward_word m.model.scales.reward r)) (reward_at m.model a s t) 0
      (joint_observations m.model) (λ o below. (reward_number_of m can a s t o).run))
    where
      mapped : (rs : List ℤ) → Each (λ r. IsRun (reward_word m.model.scales.reward r)) rs
          → Each IsRun (map (reward_word m.model.scales.reward) rs)
      mapped [] each = tt
      mapped (r ∷ rs) each = (each.0, mapped rs each.1)

  some_rewards : (t : ℕ) → 0 < length (map (reward_word m.model.scales.reward) (reward_row m.model a s t))
  some_rewards t = mapped (reward_row m.model a s t)
      (omega (
        arith,
        length_each (reward_at m.model a s t) (joint_observations m.model),
        some_joint_observation m.model can.named.model,
      ))
    where
      mapped : (rs : List ℤ) → 0 < length rs → 0 < length (map (reward_word m.model.scales.reward) rs)
      mapped [] some = some
      mapped (r ∷ rs) some = omega arith

  matrix_read : AreLinesOf (matrix_lines m.model a s) (map (map run_symbol) (matrix_lines m.model a s))
  matrix_read = run_lines (matrix_lines m.model a s)
      (each_range (λ words. (0 < length words) × Each IsRun words)
      (λ t. map (reward_word m.model.scales.reward) (reward_row m.model a s t)) 0 m.model.states
      (λ t below. (some_rewards t, rewards_run t)))

  letter_run : IsRun (codes "R")
  letter_run = record { some = omega arith; named = refl }

  -- the rewards of a joint action and a state
  reward_read : AreItemLines (reward_lines m.model a s) (reward_items m.model a s)
  unfolding reward_lines
  reward_read = by (is_only_reward first (reward_rows m.model a s)) (int_eq first (pos 0))
    where
      first : ℤ
      first = reward_at m.model a s 0 0

      by : (only none : Bool)
          → AreItemLines
          (cond only (cond none [] ((statement_words m.model (codes "R:") a s
          ++ codes "*" ∷ codes ":" ∷ codes "*" ∷ codes ":" ∷ reward_word m.model.scales.reward (reward_at m.model a s 0 0)
          ∷ []) ∷ []))
          (statement_words m.model (codes "R:") a s ∷ matrix_lines m.model a s))
          (cond only (cond none [] (statement_item m.model (codes "R") a s
          (any_symbols (reward_word m.model.scales.reward (reward_at m.model a s 0 0))) [] ∷ []))
          (statement_item m.model (codes "R") a s [] (matrix_lines m.model a s) ∷ []))
      by true true = items_joined.none
      by true false = record {
        lines_are = (
          statement_line m.model can.named.model a s action state (codes "R") _ _ letter_run
              (any_spelled (reward_word m.model.scales.reward (reward_at m.model a s 0 0))
              ((reward_number_of m can a s 0 0).run)),
          tt,
        );
        items_are = (record { first = refl; more = tt }, tt);
      }
      by false none = record {
        lines_are = (
          fields_line m.model can.named.model a s action state (codes "R") letter_run,
          subst (AreLinesOf (matrix_lines m.model a s))
              (sym (append-nil (map (map run_symbol) (matrix_lines m.model a s)))) matrix_read,
        );
        items_are = (record { first = refl; more = none_begin (matrix_lines m.model a s) }, tt);
      }

-- ---- all lines

-- what holds of each joint action and state holds of all
pub over_states : {X Y : Type 0} (R : List X → List Y → Type 0) (join : IsJoined R) (m : Model) (f : ℕ → ℕ → List X)
    (g : ℕ → ℕ → List Y) → ((a s : ℕ) → a < joint_actions m → s < m.states → R (f a s) (g a s))
    → R (by_state m f) (by_state m g)
over_states R join m f g each =
    over_range R join (λ a. flat_map (f a) (range_with_len 0 m.states))
    (λ a. flat_map (g a) (range_with_len 0 m.states)) 0
    (joint_actions m)
    (λ a action. over_range R join (f a) (g a) 0 m.states
    (λ s state. each a s (omega (arith, action)) (omega (arith, state))))

-- the lines that are written of a model
pub lines_are_items : (m : NamedModel) → IsWritableModel m
    → AreItemLines (written_lines m) (header_items m ++ statement_items m.model)
unfolding written_lines
lines_are_items m can =
    let of = m.model in
    let next = over_states AreItemLines items_joined of (chance_lines of Next) (chance_items of Next)
    (λ a s action state. chance_read m can a s action state Next) in
    let seen = over_states AreItemLines items_joined of (chance_lines of Seen) (chance_items of Seen)
    (λ a s action state. chance_read m can a s action state Seen) in
    let rewards = over_states AreItemLines items_joined of (reward_lines of) (reward_items of)
    (λ a s action state. reward_read m can a s action state) in
    let of_rewards = lines_by_state of (reward_lines of) in
    let of_seen = lines_by_state of (chance_lines of Seen) in
    items_joined.joined (header_lines m) (lines_by_state of (chance_lines of Next) ++ (of_seen ++ of_rewards))
    (header_items m) (statement_items of) (header_read m can)
    (items_joined.joined (lines_by_state of (chance_lines of Next)) (of_seen ++ of_rewards)
    (by_state of (chance_items of Next)) (by_state of (chance_items of Seen) ++ by_state of (reward_items of)) next
    (items_joined.joined of_seen of_rewards (by_state of (chance_items of Seen)) (by_state of (reward_items of)) seen
    rewards))

-- the items of the text that is written of a model
pub written_items_read : (m : NamedModel) → IsWritableModel m
    → HasItems (written_model m) (header_items m ++ statement_items m.model)
unfolding written_model
written_items_read m can =
    let lines = lines_are_items m can in
    items_read (written_lines m) (header_items m ++ statement_items m.model) lines.lines_are lines.items_are
