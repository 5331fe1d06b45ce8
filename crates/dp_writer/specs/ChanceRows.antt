-- The rows of chances as values.
use Rattle.std.specs.Prelude.{ℕ, ◌<◌, List}
use Rattle.dp_spec.specs.Model.{Model, joint_actions}
use Rattle.dp_writer.specs.declared.rows.ChanceRow.{ChanceRow}
use Rattle.dp_writer.specs.declared.rows.ChanceRow.TheVariants.{Start, Of}
use Rattle.dp_writer.specs.ModelRows.{start_row, scale_of_table, chance_row}

-- the cells of a row
abbrev pub cells_of : Model → ChanceRow → List ℕ
cells_of m Start = start_row m
cells_of m (Of table a s) = chance_row m table a s

-- the scale of a row
abbrev pub scale_of_row : Model → ChanceRow → ℕ
scale_of_row m Start = m.scales.start
scale_of_row m (Of table a s) = scale_of_table m table

-- the row is one of the model
abbrev pub IsRowOf : Model → ChanceRow → Type 0
IsRowOf m Start = Unit {0}
IsRowOf m (Of table a s) = (a < joint_actions m) × (s < m.states)
