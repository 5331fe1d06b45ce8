-- Rows that are numbered anew, as they are reached. (Own.)
use Rattle.std.specs.Prelude.{ℕ, ◌<◌, ◌≤◌, ◌≡◌, Option, Some, None, List, length, get_or}
use Rattle.dp_spec.specs.SharedForm.{AreInOrder, all_nexts, read_after}
use Rattle.dp_spec.specs.SharedPolicy.{AgentRows, PolicyRow, no_row, row_at}

-- the new number of each kind that was met, and for each new number a row of its kind
pub record IsNumbering (kinds : List ℕ) (numbers : List (Option ℕ)) (met : List ℕ) : Type 0 where
  pub counted : length numbers ≡ length kinds
  pub known : (k x : ℕ) → get_or numbers k None ≡ Some x → (x < length met)
      × (get_or kinds (get_or met x 0) 0 ≡ k)
  pub numbered : (x : ℕ) → x < length met → get_or numbers (get_or kinds (get_or met x 0) 0) None ≡ Some x
  pub inside : (x : ℕ) → x < length met → get_or met x 0 < length kinds

-- after the first k of some rows: the new number of each, in order, and the rows that were met then
pub record AreNumberedAfter (kinds : List ℕ) (k : ℕ) (nexts before after news : List ℕ) : Type 0 where
  pub counted : length news ≡ k
  pub grown : length before ≤ length after
  pub kept : (x : ℕ) → x < length before → get_or after x 0 ≡ get_or before x 0
  pub in_order : AreInOrder (length before) news
  pub read : read_after (length before) news ≡ length after
  pub below : (o : ℕ) → o < k → get_or news o 0 < length after
  pub same : (o : ℕ) → o < k → get_or kinds (get_or after (get_or news o 0) 0) 0
      ≡ get_or kinds (get_or nexts o 0) 0

-- the first k of the rows of stage t that were reached, with next rows by their new numbers, and the rows of the next
-- stage that these reach
pub record AreRenumbered (stages : AgentRows) (t : ℕ) (kinds : List ℕ) (k : ℕ) (reached : List ℕ)
    (rows : List PolicyRow) (later : List ℕ) : Type 0 where
  pub counted : length rows ≡ k
  pub action : (j : ℕ) → j < k → (get_or rows j no_row).action ≡ (row_at stages t (get_or reached j 0)).action
  pub nexts : (j : ℕ) → j < k
      → length (get_or rows j no_row).next ≡ length (row_at stages t (get_or reached j 0)).next
  pub below : (j o : ℕ) → j < k → o < length (row_at stages t (get_or reached j 0)).next
      → get_or (get_or rows j no_row).next o 0 < length later
  pub same : (j o : ℕ) → j < k → o < length (row_at stages t (get_or reached j 0)).next
      → get_or kinds (get_or later (get_or (get_or rows j no_row).next o 0) 0) 0
      ≡ get_or kinds (get_or (row_at stages t (get_or reached j 0)).next o 0) 0
  pub in_order : AreInOrder 0 (all_nexts rows)
  pub read : read_after 0 (all_nexts rows) ≡ length later
