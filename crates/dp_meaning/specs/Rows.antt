-- The rows of chances as a text gives them, and their repair.
use Rattle.std.specs.Prelude.{ℕ, ◌+◌, ◌-◌, ◌*◌, ◌/◌, max, Bool, ◌==◌, nat_le, if◌then◌else◌, List, [], ◌∷◌, ◌++◌, map}
use Rattle.std.specs.Prelude.{reverse, sum, slice_index_or, slice_set, Option, Some, None, Result, Ok}
use Rattle.std.specs.List.{fold, find, range_with_len, list_any, position_or_len}
use Rattle.dp_spec.specs.JointNumbers.{parts_of}
use Rattle.dp_meaning.specs.declared.why.Fault.{Fault}
use Rattle.dp_meaning.specs.declared.header.Start.{Start}
use Rattle.dp_meaning.specs.declared.header.Start.TheVariants.{AnyState, OneState, StartRow}
use Rattle.dp_meaning.specs.declared.statement.Table.{Table}
use Rattle.dp_meaning.specs.declared.statement.Table.TheVariants.{Trans, Obs}
use Rattle.dp_meaning.specs.declared.statement.Statement.{Statement}
use Rattle.dp_meaning.specs.declared.text.Text.{Text}
use Rattle.dp_meaning.specs.declared.why.Why.TheVariants.{RowSum, MissingRow}
use Rattle.dp_meaning.specs.Faults.{◌>>=◌, fault}
use Rattle.dp_meaning.specs.Fields.{Axis}
use Rattle.dp_meaning.specs.Statements.{axes_of}
use Rattle.dp_meaning.specs.Cells.{Cell, covers, statements_for, no_number, chance_over, chance_of_cell}
use Rattle.dp_meaning.specs.Text.{states_in, joint_actions_in, joint_observations_in}
use Rattle.dp_meaning.specs.Scales.{scales_of}

-- a row, its scale, and where a wrong sum is answered, which is nowhere where no statement covers a cell of it
pub record Row : Type 0 where
  pub cells : List ℕ
  pub scale : ℕ
  pub at : Option ℕ

-- ---- the row of the start

-- the chance to start in state s, over the scale
abbrev pub start_chance : ℕ → ℕ → Start → ℕ → ℕ
start_chance scale states AnyState s = scale / states
start_chance scale states (OneState only) s = if s == only then scale else 0
start_chance scale states (StartRow at ns) s = chance_over scale (slice_index_or ns s no_number)

-- where the value of `start` begins; only a row of chances can have a wrong sum
abbrev pub offset_of_start : Start → ℕ
offset_of_start (StartRow at ns) = at
offset_of_start _ = 0

-- the row of the start, as the text gives it
unfoldable pub start_row : Text → Row
start_row text =
    let scale = (scales_of text).start in
    let start = text.header.start in
    record {
      cells = map (start_chance scale (states_in text) start) (range_with_len 0 (states_in text));
      scale = scale;
      at = Some (offset_of_start start);
    }

-- ---- the rows of a table

-- the cells of the row of so many cells whose first two numbers are given
abbrev pub row_cells : List ℕ → ℕ → List Cell
row_cells row len = map (λ n. row ++ n ∷ []) (range_with_len 0 len)

-- the last statement that covers a cell of the row
abbrev pub last_of_row : List Axis → List Statement → List Cell → Option Statement
last_of_row axes statements cells = find (λ s. list_any (covers axes s.fields) cells) (reverse statements)

-- where the statement begins, if there is one
abbrev pub statement_at : Option Statement → Option ℕ
statement_at (Some s) = Some s.at
statement_at None = None

-- one row of a table of chances, with len cells, as the statements of the table give it
unfoldable pub table_row : ℕ → List Axis → List Statement → ℕ → List ℕ → Row
table_row scale axes statements len row = record {
  cells = map (chance_of_cell scale axes statements) (row_cells row len);
  scale = scale;
  at = statement_at (last_of_row axes statements (row_cells row len));
}

-- the rows by joint action and state
abbrev pub table_rows : Text → Table → ℕ → ℕ → List Row
table_rows text table scale len =
    let statements = statements_for table text.statements in
    let sizes = joint_actions_in text ∷ states_in text ∷ [] in
    let count = joint_actions_in text * states_in text in
    map (λ r. table_row scale (axes_of text.header table) statements len (parts_of sizes r)) (range_with_len 0 count)

-- the rows of the transitions, each over the next states
unfoldable pub trans_rows : Text → List Row
trans_rows text = table_rows text Trans (scales_of text).trans (states_in text)

-- the rows of the observations, each over the joint observations
unfoldable pub obs_rows : Text → List Row
obs_rows text = table_rows text Obs (scales_of text).obs (joint_observations_in text)

-- ---- repair

-- the cells of rows that sum to their scales, one row after the other, and how many of the rows were repaired
pub record Repaired : Type 0 where
  pub cells : List ℕ
  pub repaired : ℕ

-- the largest cell
abbrev pub greatest_cell : List ℕ → ℕ
greatest_cell cells = fold max 0 cells

-- the place of the first of the largest cells
abbrev pub greatest_place : List ℕ → ℕ
greatest_place cells = position_or_len (λ n. n == greatest_cell cells) cells

-- what is missing to the scale, or too much, goes there
unfoldable pub repaired_cells : ℕ → List ℕ → List ℕ
repaired_cells scale cells = slice_set cells (greatest_place cells) (greatest_cell cells + scale - sum cells)

-- the sum misses the scale by at most a thousandth of it
abbrev pub is_near : ℕ → ℕ → Bool
is_near scale total = nat_le (((scale - total) + (total - scale)) * 1000) scale

-- the cells as they are where they sum to the scale, repaired where the sum is near it, and else a wrong row sum
abbrev pub repair_at : ℕ → ℕ → List ℕ → Result Repaired Fault
repair_at at scale cells =
    if sum cells == scale then Ok (record { cells = cells; repaired = 0 })
    else if is_near scale (sum cells) then Ok (record { cells = repaired_cells scale cells; repaired = 1 })
    else fault RowSum at

-- where no statement covers a cell of the row, it is missing at the end of the text
abbrev pub row_place : ℕ → Option ℕ → Result ℕ Fault
row_place end (Some at) = Ok at
row_place end None = fault MissingRow end

-- a row, repaired where it has to be, or its fault
unfoldable pub repair : ℕ → Row → Result Repaired Fault
repair end row = row_place end row.at >>= λ at. repair_at at row.scale row.cells

-- the rows in order
unfoldable pub repair_all : ℕ → List Row → Result Repaired Fault
repair_all end [] = Ok (record { cells = []; repaired = 0 })
repair_all end (row ∷ rows) = do
  first ← repair end row
  others ← repair_all end rows
  Ok (record { cells = first.cells ++ others.cells; repaired = first.repaired + others.repaired })
