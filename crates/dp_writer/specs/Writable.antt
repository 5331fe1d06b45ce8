-- Which models can be written: those whose chances are decimals or uniform, over scales that may be read.
use Rattle.std.specs.Prelude.{ℕ, ◌*◌, ◌%◌, ◌^◌, pos, Bool, max, ◌&&◌, ◌||◌, ◌==◌, nat_le, if◌then◌else◌, List, []}
use Rattle.std.specs.Prelude.{◌∷◌}
use Rattle.std.specs.List.{fold, list_all, list_any}
use Rattle.dp_spec.specs.Model.{Model}
use Rattle.dp_meaning.specs.Scales.{scale_of}
use Rattle.dp_writer.specs.declared.rows.ChanceTable.{ChanceTable}
use Rattle.dp_writer.specs.declared.rows.ChanceTable.TheVariants.{Next, Seen}
use Rattle.dp_writer.specs.ModelRows.{start_row, row_length, scale_of_table, table_rows}
use Rattle.dp_writer.specs.WrittenNumbers.{decimal_over}
use Rattle.dp_writer.specs.WrittenModel.{are_equal}

-- n over the scale is a whole multiple of 10 ^ -18
abbrev pub is_decimal_cell : ℕ → ℕ → Bool
is_decimal_cell scale n = n * 10 ^ 18 % scale == 0

-- all cells of the row are equal, or each is such a multiple
abbrev pub is_writable_row : ℕ → List ℕ → Bool
is_writable_row scale cells = are_equal cells || list_all (is_decimal_cell scale) cells

-- the greatest number of fraction digits that is written of the cells
abbrev pub most_digits : ℕ → List ℕ → ℕ
most_digits scale cells = fold (λ most n. max most (decimal_over 18 (pos n) scale).digits) 0 cells

-- of a row, where none is written of one that is uniform
abbrev pub row_digits : ℕ → List ℕ → ℕ
row_digits scale cells = if are_equal cells then 0 else most_digits scale cells

-- the scale that reading gives to rows that were written
unfoldable pub written_scale : ℕ → ℕ → List (List ℕ) → ℕ
written_scale scale len rows =
    scale_of (fold (λ most row. max most (row_digits scale row)) 0 rows) (list_any are_equal rows) len

-- each of the rows can be written, and that scale is one that a model may have
abbrev pub are_writable_rows : ℕ → ℕ → List (List ℕ) → Bool
are_writable_rows scale len rows =
    list_all (is_writable_row scale) rows && nat_le (written_scale scale len rows) (2 ^ 62)

-- the rows of the table can be written
abbrev pub is_writable_table : Model → ChanceTable → Bool
is_writable_table m table = are_writable_rows (scale_of_table m table) (row_length m table) (table_rows m table)

-- the model can be written
unfoldable pub is_writable : Model → Bool
is_writable m =
    are_writable_rows m.scales.start m.states (start_row m ∷ [])
    && (is_writable_table m Next && is_writable_table m Seen)
