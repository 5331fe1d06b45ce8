use Rattle.std.proofs.Common.{◌≡◌, take, true}
use Rattle.std.specs.Prelude.{◌==◌, slice_index}
use Rattle.std.specs.List.{list_all}
use Rattle.dp_writer.specs.ChanceRows.{cells_of}
use Rattle.dp_writer.proofs.rows.ChanceRow.has_equal_cells.Given as goal

-- the cells so far are equal to the first
abbrev pub invariant-loop-place : goal.invariant-loop-place
invariant-loop-place l =
    list_all (λ n. n == slice_index (cells_of l.model.model l.self) 0) (take l.place (cells_of l.model.model l.self))
    ≡ true
