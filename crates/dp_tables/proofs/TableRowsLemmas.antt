-- The rows of a table, from its cells one after the other.
use Rattle.std.proofs.Common.{◌≡◌, ℕ, zero, suc, ◌+◌, ◌*◌, ◌/◌, ◌%◌, ◌<◌, ◌≤◌, Bool, true, false, cond, List, [], ◌∷◌}
use Rattle.std.proofs.Common.{◌++◌, length, get_or, take, drop, refl, sym, ap, subst, ◌∙◌, arith, length-drop}
use Rattle.std.proofs.Common.{length-take-le, get_or-take, get_or-drop, ext_get_or}
use Rattle.std.specs.Prelude.{sum, reverse, Option, Some, None, Result, Ok, Err}
use Rattle.std.specs.List.{find, list_any}
use Rattle.std.proofs.lemmas.Nat.{div_below, div-add-mod'}
use Rattle.std.proofs.lemmas.List.Folds.{list_any_at}
use Rattle.std.proofs.lemmas.List.Sums.{sum_by-cons}
use Rattle.std.proofs.lemmas.List.FromFn.{length-map-range_with_len, get_or-map-range_with_len}
use Rattle.dp_spec.specs.JointNumbers.{joint_number, parts_of}
use Rattle.dp_meaning.specs.declared.why.Fault.{Fault}
use Rattle.dp_meaning.specs.declared.statement.Table.{Table}
use Rattle.dp_meaning.specs.declared.statement.Statement.{Statement}
use Rattle.dp_meaning.specs.declared.text.Text.{Text}
use Rattle.dp_meaning.specs.Fields.{Axis}
use Rattle.dp_meaning.specs.Statements.{axes_of}
use Rattle.dp_meaning.specs.Cells.{Cell, covers, statements_for, chance_by, chance_of_cell}
use Rattle.dp_meaning.specs.Text.{states_in, joint_actions_in}
use Rattle.dp_meaning.specs.Rows.{Row, Repaired, row_cells, last_of_row, statement_at, table_row, table_rows}
use Rattle.dp_meaning.specs.Rows.{repair_all}
use Rattle.dp_meaning.proofs.TableRows.{length_of_table_row, cell_of_table_row, scale_of_table_row}
use Rattle.dp_spec.proofs.JointNumberLaws.{parts_of-joint_number}
use Rattle.dp_meaning.proofs.CellNumbers.{parts_of_row}
use Rattle.dp_tables.specs.Repair.{AreRows, fault_of_row, RepairsRows}
use Rattle.dp_tables.specs.Tables.{given_cells, row_length, scale_in}
use Rattle.dp_tables.proofs.RowsLemmas.{row_within}

-- ---- cells that no statement covers

none_at : {X Y : Type 0} (p : X → Y → Bool) (xs : List X) (ys : List Y) (j : ℕ) (d : Y) → j < length ys
    → find (λ x. list_any (p x) ys) xs ≡ None → find (λ x. p x (get_or ys j d)) xs ≡ None
none_at p [] ys j d h e = refl
none_at {X} {Y} p (x ∷ xs) ys j d h e = by (list_any (p x) ys) refl e (none_at p xs ys j d h)
  where
    fails : (b : Bool) → p x (get_or ys j d) ≡ b → list_any (p x) ys ≡ false → b ≡ false
    fails true t f = let some = list_any_at (p x) ys j d h t in absurd (cc)
    fails false t f = refl

    by : (b : Bool) → list_any (p x) ys ≡ b → cond b (Some x) (find (λ z. list_any (p z) ys) xs) ≡ None
        → (find (λ z. list_any (p z) ys) xs ≡ None → find (λ z. p z (get_or ys j d)) xs ≡ None)
        → cond (p x (get_or ys j d)) (Some x) (find (λ z. p z (get_or ys j d)) xs) ≡ None
    by true s f rest = cc
    by false s f rest = ap (λ b. cond b (Some x) (find (λ z. p z (get_or ys j d)) xs)) (fails _ refl s) ∙ rest f

sum_of_none : (xs : List ℕ) → ((j : ℕ) → j < length xs → get_or xs j 0 ≡ 0) → sum xs ≡ 0
sum_of_none [] h = refl
sum_of_none (x ∷ xs) h =
    let first = h 0 (omega arith) in
    let both = sum_by-cons (λ n. n) x xs in
    let rest = sum_of_none xs (λ j k. h (suc j) (omega arith)) in omega arith

at_none : (o : Option Statement) → statement_at o ≡ None → o ≡ None
at_none (Some s) e = cc
at_none None e = refl

-- a row of which no statement covers a cell is all 0
row_missing : (scale : ℕ) (axes : List Axis) (statements : List Statement) (len : ℕ) (row : List ℕ)
    → (table_row scale axes statements len row).at ≡ None → sum (table_row scale axes statements len row).cells ≡ 0
unfolding table_row chance_of_cell
row_missing scale axes statements len row e =
    sum_of_none (table_row scale axes statements len row).cells (λ j h.
    let within : j < len = subst (λ n. j < n) (length_of_table_row scale axes statements len row) h in
    let none = none_at (λ (s : Statement) (cell : Cell). covers axes s.fields cell) (reverse statements)
    (row_cells row len) j []
    (subst (λ n. j < n) (sym (length-map-range_with_len (λ n. row ++ n ∷ []) 0 len)) within) (at_none _ e) in
    let same : get_or (row_cells row len) j [] ≡ row ++ j ∷ [] =
    get_or-map-range_with_len (λ n. row ++ n ∷ []) 0 len j j [] within (omega arith) in
    cell_of_table_row scale axes statements len row j within
    ∙ ap (chance_by scale axes (row ++ j ∷ []))
    (subst (λ cell. find (λ s. covers axes s.fields cell) (reverse statements) ≡ None) same none))

-- ---- rows by their numbers

row_parts : (actions states r : ℕ) → r < actions * states
    → (r / states < actions) × (r % states < states) × (r ≡ r / states * states + r % states)
row_parts actions zero r h = absurd (omega arith)
row_parts actions (suc states) r h =
    let below = div_below r (suc states) actions (omega arith) h in
    let is = div-add-mod' r (suc states) in (below, omega arith, sym is)

-- the row of a number by its joint action and its state
pub parts_of_number : (actions states r : ℕ) → r < actions * states
    → parts_of (actions ∷ states ∷ []) r ≡ r / states ∷ r % states ∷ []
parts_of_number actions states r h =
    let w = row_parts actions states r h in
    ap (parts_of (actions ∷ states ∷ [])) w.2 ∙ parts_of_row actions states (r / states) (r % states) w.0 w.1

cell_of_row : (actions states len r j : ℕ) → r < actions * states → j < len
    → parts_of (actions ∷ states ∷ len ∷ []) (r * len + j) ≡ parts_of (actions ∷ states ∷ []) r ++ j ∷ []
cell_of_row actions states len r j h k =
    let w = row_parts actions states r h in
    let number : (r / states * states + r % states) * len + j
    ≡ joint_number (actions ∷ states ∷ len ∷ []) (r / states ∷ r % states ∷ j ∷ []) =
    joined actions states len (r / states) (r % states) j in
    ap (λ n. parts_of (actions ∷ states ∷ len ∷ []) (n * len + j)) w.2
    ∙ ap (parts_of (actions ∷ states ∷ len ∷ [])) number
    ∙ parts_of-joint_number (actions ∷ states ∷ len ∷ []) (r / states ∷ r % states ∷ j ∷ []) (w.0, (w.1, (k, tt)))
    ∙ sym (ap (λ ps. ps ++ j ∷ []) (parts_of_number actions states r h))
  where
    joined : (actions states len a s j : ℕ)
        → (a * states + s) * len + j ≡ joint_number (actions ∷ states ∷ len ∷ []) (a ∷ s ∷ j ∷ [])
    joined actions states len a s j = omega arith

-- ---- all rows

-- the cells that stand from r * len on are those of row r
row_of_cells : (text : Text) (table : Table) (scale len r : ℕ) → r < joint_actions_in text * states_in text
    → (table_row scale (axes_of text.header table) (statements_for table text.statements) len
    (parts_of (joint_actions_in text ∷ states_in text ∷ []) r)).cells
    ≡ take len (drop (r * len) (given_cells text table scale len))
row_of_cells text table scale len r h = ext_get_or 0 row part (row_len
    ∙ sym part_len) (λ j k. at j (subst (λ n. j < n) row_len k))
  where
    rows : ℕ
    rows = joint_actions_in text * states_in text

    row : List ℕ
    row = (table_row scale (axes_of text.header table) (statements_for table text.statements) len
        (parts_of (joint_actions_in text ∷ states_in text ∷ []) r)).cells

    part : List ℕ
    part = take len (drop (r * len) (given_cells text table scale len))

    cell : ℕ → ℕ
    cell k = chance_of_cell scale (axes_of text.header table) (statements_for table text.statements)
        (parts_of (joint_actions_in text ∷ states_in text ∷ len ∷ []) k)

    row_len : length row ≡ len
    row_len = length_of_table_row scale _ _ len _

    fits : r * len + len ≤ rows * len
    fits = row_within r len rows h

    all_len : length (given_cells text table scale len) ≡ rows * len
    all_len = length-map-range_with_len cell 0 (rows * len)

    part_len : length part ≡ len
    part_len =
        let fit = fits in
        let all = all_len in
        length-take-le len (drop (r * len) (given_cells text table scale len))
        (omega (arith, length-drop (r * len) (given_cells text table scale len)))

    at : (j : ℕ) → j < len → get_or row j 0 ≡ get_or part j 0
    at j k =
        let fit = fits in
        cell_of_table_row scale _ _ len _ j k
        ∙ sym (get_or-take len (drop (r * len) (given_cells text table scale len)) j 0 k
        ∙ get_or-drop (r * len) (given_cells text table scale len) j 0
        ∙ get_or-map-range_with_len cell 0 (rows * len) (r * len + j) (r * len + j) 0 (omega arith) (omega arith)
        ∙ ap (chance_of_cell scale (axes_of text.header table) (statements_for table text.statements))
        (cell_of_row (joint_actions_in text) (states_in text) len r j h k))

-- the row of a number
pub row_of_table : (text : Text) (table : Table) (scale len r : ℕ) (d : Row)
    → r < joint_actions_in text * states_in text
    → get_or (table_rows text table scale len) r d
    ≡ table_row scale (axes_of text.header table) (statements_for table text.statements) len
    (parts_of (joint_actions_in text ∷ states_in text ∷ []) r)
row_of_table text table scale len r d h = get_or-map-range_with_len _ 0
    (joint_actions_in text * states_in text) r r d h (omega arith)

pub rows_of_table : (text : Text) (table : Table) (scale len : ℕ)
    → AreRows scale (joint_actions_in text * states_in text) len (given_cells text table scale len)
    (table_rows text table scale len)
rows_of_table text table scale len = record {
  size = count;
  each = λ i d h. ap (λ r. r.cells) (row_of_table text table scale len i d (below i h))
      ∙ row_of_cells text table scale len i (below i h);
  over = λ i d h. ap (λ r. r.scale) (row_of_table text table scale len i d (below i h))
      ∙ scale_of_table_row scale _ _ len _;
  missing = λ i d h e.
      let same = row_of_table text table scale len i d (below i h) in
      ap (λ r. sum r.cells) same ∙ row_missing scale _ _ len _ (sym (ap (λ r. r.at) same) ∙ e);
}
  where
    count : length (table_rows text table scale len) ≡ joint_actions_in text * states_in text
    count = length-map-range_with_len _ 0 (joint_actions_in text * states_in text)

    below : (i : ℕ) → i < length (table_rows text table scale len) → i < joint_actions_in text * states_in text
    below i h = subst (λ n. i < n) count h

-- ---- the repair of all rows

at_of_row : (scale : ℕ) (axes : List Axis) (statements : List Statement) (len : ℕ) (row : List ℕ)
    → (table_row scale axes statements len row).at ≡ statement_at (last_of_row axes statements (row_cells row len))
unfolding table_row
at_of_row scale axes statements len row = refl

-- by the scale, the row length and the sizes that calls answer, over cells that are those of the text
module _ (text : Text) (table : Table) (scale len actions states : ℕ) (given : List ℕ)
    (scale_is : scale ≡ scale_in text table) (len_is : len ≡ row_length text table)
    (actions_is : actions ≡ joint_actions_in text) (states_is : states ≡ states_in text)
    (given_is : given ≡ given_cells text table (scale_in text table) (row_length text table)) where
  count_is : actions * states ≡ joint_actions_in text * states_in text
  count_is = λ j. actions_is j * states_is j

  own_given : given ≡ given_cells text table scale len
  own_given = given_is ∙ (λ j. given_cells text table (sym scale_is j) (sym len_is j))

  own_rows : table_rows text table (scale_in text table) (row_length text table) ≡ table_rows text table scale len
  own_rows = λ j. table_rows text table (sym scale_is j) (sym len_is j)

  are_rows : AreRows scale (actions * states) len given (table_rows text table scale len)
  are_rows =
      subst (λ n. AreRows scale n len given (table_rows text table scale len)) (sym count_is)
      (subst (λ cells. AreRows scale (joint_actions_in text * states_in text) len cells
      (table_rows text table scale len)) (sym own_given) (rows_of_table text table scale len))

  pub rows_fit : actions * states * len ≡ length given
  rows_fit =
      ap (λ n. n * len) count_is ∙ sym (ap length own_given ∙ length-map-range_with_len _ 0
      (joint_actions_in text * states_in text * len))

  pub rows_done : (cells : List ℕ) (repaired : ℕ)
      → RepairsRows scale (actions * states) len given cells (Ok repaired) → (end : ℕ)
      → repair_all end (table_rows text table (scale_in text table) (row_length text table))
      ≡ Ok (record { cells = cells; repaired = repaired })
  rows_done cells repaired is end =
      ap (repair_all end) own_rows ∙ is end (table_rows text table scale len) are_rows

  pub rows_failed : (cells : List ℕ) (r : ℕ) → r < actions * states
      → RepairsRows scale (actions * states) len given cells (Err r) → (end : ℕ)
      → repair_all end (table_rows text table (scale_in text table) (row_length text table))
      ≡ Err (fault_of_row end (statement_at (last_of_row (axes_of text.header table)
      (statements_for table text.statements)
      (row_cells (parts_of (joint_actions_in text ∷ states_in text ∷ []) r) len))))
  rows_failed cells r h is end =
      let d : Row = record { cells = []; scale = 0; at = None } in
      let fault : Option ℕ → Result Repaired Fault = λ o. Err (fault_of_row end o) in
      ap (repair_all end) own_rows ∙ is end (table_rows text table scale len) d are_rows
      ∙ ap fault (ap (λ row. row.at) (row_of_table text table scale len r d (subst (λ n. r < n) count_is h))
      ∙ at_of_row scale _ _ len _)
