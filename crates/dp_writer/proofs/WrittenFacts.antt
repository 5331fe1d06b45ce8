-- What is known of a model that can be written: its lists, its rows of chances and its rewards.
use Rattle.std.proofs.Common.{◌≡◌, ℕ, zero, suc, ◌+◌, ◌*◌, ◌%◌, ◌^◌, ◌<◌, ◌≤◌, ◌-◌, Bool, true, false, pos, List}
use Rattle.std.proofs.Common.{[]}
use Rattle.std.proofs.Common.{◌∷◌, cond, length, get_or, map, refl, sym, ap, ◌∙◌, arith}
use Rattle.std.specs.Prelude.{codes, ◌||◌, ◌&&◌, nat_le, IsTrue, slice_index}
use Rattle.std.specs.List.{list_all}
use Rattle.std.proofs.lemmas.Bool.{and_parts, eqb-true}
use Rattle.std.proofs.Math.Nat.{le-mul_of_pos_right, mul-mod_left, mul_assoc, mul_comm}
use Rattle.std.proofs.lemmas.Nat.{pow-add}
use Rattle.dp_spec.specs.JointNumbers.{product}
use Rattle.dp_spec.specs.Model.{Model, IsModel, joint_actions, joint_observations, reward_at}
use Rattle.dp_spec.specs.Model.{start_at}
use Rattle.dp_spec.proofs.JointNumberLaws.{positive_left, positive_right}
use Rattle.dp_spec.proofs.ModelLaws.{some_state, some_joint_observation}
use Rattle.dp_model.specs.Names.{AreNames, IsNameList, names_of}
use Rattle.dp_model.specs.Tables.{IsNamedModel, NamedModel, NamesAllOrNone}
use Rattle.dp_meaning.specs.Numbers.{is_chance, is_reward}
use Rattle.dp_meaning.proofs.Each.{Each}
use Rattle.dp_writer.specs.declared.rows.ChanceRow.{ChanceRow}
use Rattle.dp_writer.specs.declared.rows.ChanceRow.TheVariants.{Start, Of}
use Rattle.dp_writer.specs.declared.rows.ChanceTable.{ChanceTable}
use Rattle.dp_writer.specs.declared.rows.ChanceTable.TheVariants.{Next, Seen}
use Rattle.dp_writer.specs.ChanceRows.{IsRowOf, cells_of, scale_of_row}
use Rattle.dp_writer.specs.ModelRows.{action_rows, cell_at, chance_row, each_below, row_length, scale_of_table}
use Rattle.dp_writer.specs.ModelRows.{start_row, table_rows}
use Rattle.dp_writer.specs.Writable.{are_writable_rows, is_decimal_cell, is_writable, is_writable_row}
use Rattle.dp_writer.specs.Writable.{is_writable_table, written_scale}
use Rattle.dp_writer.specs.WrittenModel.{are_equal, chance_word, reward_word, row_words}
use Rattle.dp_writer.specs.WrittenNumbers.{decimal_over}
use Rattle.dp_writer.proofs.NumberWords.{chance_number, reward_number}
use Rattle.dp_writer.proofs.Ranges.{each_all, each_range, lists_pass, range_passes}
use Rattle.dp_writer.proofs.ReadPieces.{IsNumberOf, IsWrittenList}
use Rattle.dp_writer.proofs.RowCells.{each_at, length_each, reward_within, some_in_table}
use Rattle.dp_writer.proofs.RowCells.{some_scale, within_scale}
use Rattle.dp_writer.proofs.Symbols.{IsRun}
use Rattle.dp_writer.proofs.WordShapes.{IsNameWord, name_word}

-- what `write_model` knows of a model
pub record IsWritableModel (m : NamedModel) : Type 0 where
  pub named : IsNamedModel m
  pub names : AreNames m.names
  pub writable : IsTrue (is_writable m.model)

-- ---- the lists

named_list : (names : List (List ℕ)) (n : ℕ) → IsNameList names → NamesAllOrNone names n → 1 ≤ n → n ≤ 65536
    → IsWrittenList names n
named_list names n are all some few = record {
  are_names = each_all IsNameWord names (λ i d below. name_word (get_or names i d) (are.are_names i d below));
  differ = are.once;
  all = all;
  some = some;
  few = few;
}

-- each number of a product that is not 0 is at least 1, and no more than the product
factor_within : (ns : List ℕ) (i : ℕ) → i < length ns → 0 < product ns
    → (1 ≤ slice_index ns i) × (slice_index ns i ≤ product ns)
factor_within [] i below some = absurd (omega (arith, below))
factor_within (n ∷ ns) zero below some =
    (positive_left n (product ns) 0 some, omega (arith, le-mul_of_pos_right n (positive_right n (product ns) 0 some)))
factor_within (n ∷ ns) (suc i) below some =
    let rest = factor_within ns i (omega (arith, below)) (positive_right n (product ns) 0 some) in (
      rest.0,
      omega (
        arith,
        rest.1,
        le-mul_of_pos_right (product ns) (positive_left n (product ns) 0 some),
        mul_comm n (product ns),
      ),
    )

-- a number over a power of ten that is not too large
whole_tens : (a scale k most : ℕ) → k ≤ most → scale ≡ 10 ^ k → a * 10 ^ most % scale ≡ 0
whole_tens a scale k most few tens =
    let split : most ≡ (most - k) + k = omega (arith, few) in
    let all : a * 10 ^ most ≡ a * 10 ^ (most - k) * scale
    = ap (λ e. a * 10 ^ e) split ∙ ap (λ p. a * p) (pow-add 10 (most - k) k)
    ∙ sym (mul_assoc a (10 ^ (most - k)) (10 ^ k)) ∙ ap (λ p. a * 10 ^ (most - k) * p) (sym tens) in
    ap (λ x. x % scale) all ∙ mul-mod_left (a * 10 ^ (most - k)) scale

module _ (m : NamedModel) (can : IsWritableModel m) where
  abbrev model : IsModel m.model
  model = can.named.model

  pub agents_list : IsWrittenList m.names.agents (length m.model.actions)
  agents_list = named_list m.names.agents (length m.model.actions) can.names.agents can.named.names.agents
      model.sizes.some_agent (omega (arith, model.sizes.agents_limit))

  pub states_list : IsWrittenList m.names.states m.model.states
  states_list = named_list m.names.states m.model.states can.names.states can.named.names.states
      (some_state m.model model) (omega (arith, model.sizes.states_limit))

  pub actions_list : (i : ℕ) → i < length m.model.actions
      → IsWrittenList (names_of m.names.actions i) (slice_index m.model.actions i)
  unfolding joint_actions
  actions_list i below =
      let within = factor_within m.model.actions i below model.sizes.some_action in
      named_list (names_of m.names.actions i) (slice_index m.model.actions i) (can.names.actions i)
      (can.named.names.actions i below) within.0 (omega (arith, within.1, model.sizes.joint_actions_limit))

  pub observations_list : (i : ℕ) → i < length m.model.observations
      → IsWrittenList (names_of m.names.observations i) (slice_index m.model.observations i)
  unfolding joint_observations
  observations_list i below =
      let within = factor_within m.model.observations i below (some_joint_observation m.model model) in
      named_list (names_of m.names.observations i) (slice_index m.model.observations i) (can.names.observations i)
      (can.named.names.observations i (omega (arith, below, model.sizes.alike))) within.0
      (omega (arith, within.1, model.sizes.joint_observations_limit))

  -- ---- numbers

  pub discount_number : IsNumberOf is_chance (chance_word m.model.scales.discount m.model.scales.gain)
      (decimal_over 18 (pos m.model.scales.gain) m.model.scales.discount)
  discount_number =
      let digits = model.scales.discount_digits in
      chance_number m.model.scales.discount m.model.scales.gain model.scales.discount model.scales.gain
      (whole_tens m.model.scales.gain m.model.scales.discount digits.0 18 digits.1 digits.2)

  pub reward_number_of : (a s t o : ℕ) →
      IsNumberOf is_reward (reward_word m.model.scales.reward (reward_at m.model a s t o))
      (decimal_over 9 (reward_at m.model a s t o) m.model.scales.reward)
  reward_number_of a s t o =
      let digits = model.scales.reward_digits in
      reward_number m.model.scales.reward digits.0 (reward_at m.model a s t o) digits.1 digits.2
      (reward_within m.model a s t o model)

-- ---- rows of chances

-- a row as it is written
pub record IsWrittenRow (scale : ℕ) (cells : List ℕ) : Type 0 where
  pub some : 0 < length cells
  pub numbers : are_equal cells ≡ false
      → Each (λ n. IsNumberOf is_chance (chance_word scale n) (decimal_over 18 (pos n) scale)) cells

-- its words are names and numbers, and not none
pub row_runs : (scale : ℕ) (cells : List ℕ) → IsWrittenRow scale cells
    → (0 < length (row_words scale cells)) × Each IsRun (row_words scale cells)
unfolding row_words
row_runs scale cells is = by (are_equal cells) refl
  where
    runs : (cells : List ℕ) →
        Each (λ n. IsNumberOf is_chance (chance_word scale n) (decimal_over 18 (pos n) scale)) cells
        → Each IsRun (map (chance_word scale) cells)
    runs [] each = tt
    runs (n ∷ ns) each = (each.0.run, runs ns each.1)

    mapped : (cells : List ℕ) → 0 < length cells → 0 < length (map (chance_word scale) cells)
    mapped [] some = some
    mapped (n ∷ ns) some = omega arith

    by : (b : Bool) → are_equal cells ≡ b
        → (0 < length (cond b (codes "uniform" ∷ []) (map (chance_word scale) cells)))
        × Each IsRun (cond b (codes "uniform" ∷ []) (map (chance_word scale) cells))
    by true e = (omega arith, (record { some = omega arith; named = refl }, tt))
    by false e = (mapped cells is.some, runs cells (is.numbers e))

written_row : (scale : ℕ) (f : ℕ → ℕ) (n : ℕ) → 0 < n → 0 < scale
    → ((k : ℕ) → k < length (each_below f n) → get_or (each_below f n) k 0 ≤ scale)
    → is_writable_row scale (each_below f n) ≡ true → IsWrittenRow scale (each_below f n)
written_row scale f n some_cells some within writable = record {
  some = omega (arith, length_each f n, some_cells);
  numbers =
      λ differ. each_range (λ c. IsNumberOf is_chance (chance_word scale c) (decimal_over 18 (pos c) scale)) f 0 n
      (number differ);
}
  where
    number : are_equal (each_below f n) ≡ false → (k : ℕ) → k < 0 + n
        → IsNumberOf is_chance (chance_word scale (f k)) (decimal_over 18 (pos (f k)) scale)
    number differ k below =
        let lt : k < n = omega (arith, below) in
        let all : list_all (is_decimal_cell scale) (each_below f n) ≡ true
        = sym (ap (λ b. b || list_all (is_decimal_cell scale) (each_below f n)) differ) ∙ writable in
        let cell = range_passes (is_decimal_cell scale) f 0 n k (omega arith) below all in
        chance_number scale (f k) some
        (omega (arith, within k (omega (arith, length_each f n, lt)), each_at f n k 0 lt))
        (eqb-true (f k * 10 ^ 18 % scale) 0 cell)

-- each row of a model that can be written
row_of : (m : Model) (row : ChanceRow) → IsModel m → IsRowOf m row
    → is_writable_row (scale_of_row m row) (cells_of m row) ≡ true
    → IsWrittenRow (scale_of_row m row) (cells_of m row)
row_of m Start is of writable =
    written_row m.scales.start (start_at m) m.states (some_state m is) (some_scale m Start is)
    (λ k below. within_scale m Start k is of below) writable
row_of m (Of table a s) is of writable =
    written_row (scale_of_table m table) (cell_at m table a s) (row_length m table) (some_in_table m table is)
    (some_scale m (Of table a s) is) (λ k below. within_scale m (Of table a s) k is of below) writable

table_writable : (m : Model) → is_writable m ≡ true
    → (is_writable_row m.scales.start (start_row m) ≡ true)
    × ((table : ChanceTable) → is_writable_table m table ≡ true)
unfolding is_writable
table_writable m writable =
    let tables = is_writable_table m Next && is_writable_table m Seen in
    let parts = and_parts (are_writable_rows m.scales.start m.states (start_row m ∷ [])) tables writable in
    let both = and_parts (is_writable_table m Next) (is_writable_table m Seen) parts.1 in
    let rows = and_parts (list_all (is_writable_row m.scales.start) (start_row m ∷ []))
    (nat_le (written_scale m.scales.start m.states (start_row m ∷ [])) (2 ^ 62)) parts.0 in
    ((and_parts (is_writable_row m.scales.start (start_row m)) true rows.0).0, each both.0 both.1)
  where
    each : is_writable_table m Next ≡ true → is_writable_table m Seen ≡ true → (table : ChanceTable)
        → is_writable_table m table ≡ true
    each next seen Next = next
    each next seen Seen = seen

module _ (m : NamedModel) (can : IsWritableModel m) where
  -- the start
  pub start_written : IsWrittenRow m.model.scales.start (start_row m.model)
  start_written = row_of m.model Start can.named.model tt (table_writable m.model can.writable).0

  -- the row of a joint action and a state
  pub row_written : (table : ChanceTable) (a s : ℕ) → a < joint_actions m.model → s < m.model.states
      → IsWrittenRow (scale_of_table m.model table) (chance_row m.model table a s)
  row_written table a s action state =
      let scale = scale_of_table m.model table in
      let all = and_parts (list_all (is_writable_row scale) (table_rows m.model table))
      (nat_le (written_scale scale (row_length m.model table) (table_rows m.model table)) (2 ^ 62))
      ((table_writable m.model can.writable).1 table) in
      let rows =
      lists_pass (is_writable_row scale) (action_rows m.model table) 0 (joint_actions m.model) a (omega arith)
      (omega (arith, action)) all.0 in
      row_of m.model (Of table a s) can.named.model (action, state)
      (range_passes (is_writable_row scale) (chance_row m.model table a) 0 m.model.states s (omega arith)
      (omega (arith, state)) rows)
