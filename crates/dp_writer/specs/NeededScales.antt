-- What is known of rows that are tried one after the other.
use Rattle.std.specs.Prelude.{◌≡◌, ℕ, ◌≤◌, true, false, max, ◌||◌, List, Option, MatchOption}
use Rattle.std.specs.List.{fold, list_all, list_any}
use Rattle.dp_writer.specs.declared.needs.RowNeeds.{RowNeeds}
use Rattle.dp_writer.specs.Writable.{is_decimal_cell, is_writable_row, most_digits, row_digits}
use Rattle.dp_writer.specs.WrittenModel.{are_equal}

-- the cells are decimals, of which the longest has so many fraction digits
pub record HasDigits (scale : ℕ) (cells : List ℕ) (digits : ℕ) : Type 0 where
  pub decimals : list_all (is_decimal_cell scale) cells ≡ true
  pub most : digits ≡ most_digits scale cells
  pub within : digits ≤ 18

-- the rows can be written, and this is needed with them and what stands before them
pub record AreNeeds (scale : ℕ) (rows : List (List ℕ)) (before after : RowNeeds) : Type 0 where
  pub writable : list_all (is_writable_row scale) rows ≡ true
  pub digits : after.digits ≡ fold (λ most row. max most (row_digits scale row)) before.digits rows
  pub uniform : after.uniform ≡ (before.uniform || list_any are_equal rows)
  pub within : after.digits ≤ 18

-- that is found, or one of the rows cannot be written
abbrev pub IsNeeded : ℕ → List (List ℕ) → RowNeeds → Option RowNeeds → Type 0
IsNeeded scale rows before after =
    MatchOption after (list_all (is_writable_row scale) rows ≡ false) (λ needs. AreNeeds scale rows before needs)
