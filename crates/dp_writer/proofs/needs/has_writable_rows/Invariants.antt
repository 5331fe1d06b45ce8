use Rattle.std.proofs.Common.{false}
use Rattle.std.specs.List.{flat_map, range_with_len}
use Rattle.dp_writer.specs.ModelRows.{action_rows, scale_of_table}
use Rattle.dp_writer.specs.NeededScales.{AreNeeds}
use Rattle.dp_writer.proofs.needs.has_writable_rows.Given as goal

-- the rows so far
abbrev pub invariant-loop-action : goal.invariant-loop-action
invariant-loop-action l =
    AreNeeds (scale_of_table l.model.model l.table)
    (flat_map (action_rows l.model.model l.table) (range_with_len 0 l.action))
    (record { digits = 0; uniform = false }) l.needs
