-- The rows of a table as they are read.
use Rattle.std.proofs.Common.{◌≡◌, ◌≢◌, true, ℕ, ◌+◌, ◌*◌, ◌<◌, false, List, [], ◌∷◌, ◌++◌, length, get_or, map, refl}
use Rattle.std.proofs.Common.{sym, ap, subst, ◌∙◌, arith}
use Rattle.std.specs.Prelude.{sum}
use Rattle.std.specs.List.{range_with_len, list_any}
use Rattle.std.proofs.lemmas.List.{length-map, get_or-map}
use Rattle.std.proofs.lemmas.List.FromFn.{length-map-range_with_len, get_or-map-range_with_len}
use Rattle.dp_spec.specs.JointNumbers.{parts_of}
use Rattle.dp_base.specs.Sums.{nat_sum}
use Rattle.dp_meaning.specs.declared.statement.Table.{Table}
use Rattle.dp_meaning.specs.declared.statement.Statement.{Statement}
use Rattle.dp_meaning.specs.declared.text.Text.{Text}
use Rattle.dp_meaning.specs.Fields.{Axis}
use Rattle.dp_meaning.specs.Statements.{axes_of}
use Rattle.dp_meaning.specs.Cells.{covers, statements_for, chance_of_cell}
use Rattle.dp_meaning.specs.Text.{states_in, joint_actions_in}
use Rattle.dp_meaning.specs.Rows.{is_near, greatest_place, Row, Repaired, row_cells, table_row, table_rows}
use Rattle.dp_meaning.specs.Rows.{repair_all}
use Rattle.dp_meaning.proofs.CellNumbers.{parts_of_row}
use Rattle.dp_meaning.proofs.FaultSteps.{done}
use Rattle.dp_meaning.proofs.CellValues.{chance_uncovered}
use Rattle.dp_meaning.proofs.Repairs.{IsRepair, row_of_all, length_of_all, sum_of_row}
use Rattle.dp_spec.proofs.JointNumberLaws.{row_below}

-- ---- one row

pub length_of_table_row : (scale : ℕ) (axes : List Axis) (statements : List Statement) (len : ℕ) (row : List ℕ)
    → length (table_row scale axes statements len row).cells ≡ len
unfolding table_row
length_of_table_row scale axes statements len row =
    length-map (row_cells row len) (chance_of_cell scale axes statements)
    ∙ length-map-range_with_len (λ n. row ++ n ∷ []) 0 len

pub cell_of_table_row : (scale : ℕ) (axes : List Axis) (statements : List Statement) (len : ℕ) (row : List ℕ) (j : ℕ)
    → j < len
    → get_or (table_row scale axes statements len row).cells j 0
    ≡ chance_of_cell scale axes statements (row ++ j ∷ [])
unfolding table_row
cell_of_table_row scale axes statements len row j h =
    get_or-map (chance_of_cell scale axes statements) (row_cells row len) j [] 0
    (subst (λ n. j < n) (sym (length-map-range_with_len (λ n. row ++ n ∷ []) 0 len)) h)
    ∙ ap (chance_of_cell scale axes statements) (get_or-map-range_with_len (λ n. row ++ n ∷ []) 0 len j j [] h
    (omega arith))

pub scale_of_table_row : (scale : ℕ) (axes : List Axis) (statements : List Statement) (len : ℕ) (row : List ℕ)
    → (table_row scale axes statements len row).scale ≡ scale
unfolding table_row
scale_of_table_row scale axes statements len row = refl

-- ---- all rows

-- the row of a joint action and a state as the text gives it
abbrev pub given_row : Text → Table → ℕ → ℕ → ℕ → ℕ → Row
given_row text table scale len a s = table_row scale (axes_of text.header table)
    (statements_for table text.statements) len (a ∷ s ∷ [])

-- what is read of a table whose rows have so many cells
pub record IsTable (text : Text) (table : Table) (scale len : ℕ) (cells : List ℕ) : Type 0 where
  pub size : length cells ≡ joint_actions_in text * states_in text * len
  pub row : (a s : ℕ) → a < joint_actions_in text → s < states_in text
      → (y : Repaired) × IsRepair scale (given_row text table scale len a s).cells y
      × ((j : ℕ) → j < len → get_or cells ((a * states_in text + s) * len + j) 0 ≡ get_or y.cells j 0)

pub table_is : (end : ℕ) (text : Text) (table : Table) (scale len : ℕ) (x : Repaired)
    → repair_all end (table_rows text table scale len) ≡ done x
    → IsTable text table scale len x.cells
table_is end text table scale len x e = record { size = size; row = row }
  where
    count : ℕ
    count = joint_actions_in text * states_in text

    row_at : ℕ → Row
    row_at r = table_row scale (axes_of text.header table) (statements_for table text.statements) len
        (parts_of (joint_actions_in text ∷ states_in text ∷ []) r)

    is_row : (i : ℕ) (d : Row) → i < count → get_or (map row_at (range_with_len 0 count)) i d ≡ row_at i
    is_row i d h = get_or-map-range_with_len row_at 0 count i i d h (omega arith)

    rows_count : length (map row_at (range_with_len 0 count)) ≡ count
    rows_count = length-map-range_with_len row_at 0 count

    row_len : (i : ℕ) (d : Row) → i < length (map row_at (range_with_len 0 count))
        → length (get_or (map row_at (range_with_len 0 count)) i d).cells ≡ len
    row_len i d h = ap (λ r. length r.cells) (is_row i d (subst (λ n. i < n) rows_count h))
        ∙ length_of_table_row scale _ _ len _

    size : length x.cells ≡ joint_actions_in text * states_in text * len
    size = length_of_all end len (map row_at (range_with_len 0 count)) x row_len e ∙ ap (λ n. n * len) rows_count

    row : (a s : ℕ) → a < joint_actions_in text → s < states_in text
        → (y : Repaired) × IsRepair scale (given_row text table scale len a s).cells y
        × ((j : ℕ) → j < len → get_or x.cells ((a * states_in text + s) * len + j) 0 ≡ get_or y.cells j 0)
    row a s ha hs =
        let within = row_below a (joint_actions_in text) (states_in text) s ha hs in
        let d = given_row text table scale len a s in
        let w = row_of_all end len (map row_at (range_with_len 0 count)) x row_len e (a * states_in text + s) d
        (subst (λ n. a * states_in text + s < n) (sym rows_count) within) in
        let same = is_row (a * states_in text + s) d within
        ∙ ap (table_row scale (axes_of text.header table) (statements_for table text.statements) len)
        (parts_of_row (joint_actions_in text) (states_in text) a s ha hs) in
        let is = subst (λ r. IsRepair r.scale r.cells w.0) same w.1 in (
          w.0,
          subst (λ n. IsRepair n (given_row text table scale len a s).cells w.0)
              (scale_of_table_row scale _ _ len _) is,
          w.2,
        )

pub sum_of_table_row : (text : Text) (table : Table) (scale len : ℕ) (cells : List ℕ)
    → IsTable text table scale len cells → len < 1000
    → (a s : ℕ) → a < joint_actions_in text → s < states_in text
    → nat_sum len (λ j. get_or cells ((a * states_in text + s) * len + j) 0) ≡ scale
sum_of_table_row text table scale len cells is short a s ha hs =
    let w = is.row a s ha hs in
    sum_of_row len ((a * states_in text + s) * len) scale cells (given_row text table scale len a s).cells w.0 w.1
    (length_of_table_row scale _ _ len _) short w.2

pub uncovered_of_table : (text : Text) (table : Table) (scale len : ℕ) (cells : List ℕ)
    → IsTable text table scale len cells
    → (a s j : ℕ) → a < joint_actions_in text → s < states_in text → j < len
    → list_any (λ l. covers (axes_of text.header table) l.fields (a ∷ s ∷ j ∷ []))
    (statements_for table text.statements)
    ≡ false
    → get_or cells ((a * states_in text + s) * len + j) 0 ≡ 0
uncovered_of_table text table scale len cells is a s j ha hs hj none =
    let w = is.row a s ha hs in
    w.2 j hj ∙ w.1.zeros j (subst (λ n. j < n) (sym (length_of_table_row scale _ _ len _)) hj)
    (cell_of_table_row scale _ _ len _ j hj ∙ chance_uncovered scale _ _ _ none)

pub kept_of_table : (text : Text) (table : Table) (scale len : ℕ) (cells : List ℕ)
    → IsTable text table scale len cells
    → (a s j : ℕ) → a < joint_actions_in text → s < states_in text → j < len
    → sum (given_row text table scale len a s).cells ≡ scale
    → get_or cells ((a * states_in text + s) * len + j) 0 ≡ chance_of_cell scale (axes_of text.header table)
    (statements_for table text.statements) (a ∷ s ∷ j ∷ [])
kept_of_table text table scale len cells is a s j ha hs hj right =
    let w = is.row a s ha hs in
    w.2 j hj ∙ ap (λ c. get_or c j 0) (w.1.kept right) ∙ cell_of_table_row scale _ _ len _ j hj

pub near_of_table : (text : Text) (table : Table) (scale len : ℕ) (cells : List ℕ)
    → IsTable text table scale len cells
    → (a s : ℕ) → a < joint_actions_in text → s < states_in text
    → (is_near scale (sum (given_row text table scale len a s).cells) ≡ true)
    × ((j : ℕ) → j < length (given_row text table scale len a s).cells
    → j ≢ greatest_place (given_row text table scale len a s).cells
    → get_or cells ((a * states_in text + s) * len + j) 0 ≡ get_or (given_row text table scale len a s).cells j 0)
near_of_table text table scale len cells is a s ha hs =
    let w = is.row a s ha hs in
    (w.1.near, λ j hj ne. w.2 j (subst (λ n. j < n) (length_of_table_row scale _ _ len _) hj) ∙ w.1.others j ne)
