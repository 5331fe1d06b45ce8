use Rattle.dp_writer.specs.ModelRows.{chance_row, each_below, scale_of_table}
use Rattle.dp_writer.specs.NeededScales.{AreNeeds}
use Rattle.dp_writer.proofs.needs.with_rows.Given as goal

-- the rows so far
abbrev pub invariant-loop-state : goal.invariant-loop-state
invariant-loop-state l =
    AreNeeds (scale_of_table l.model.model l.table) (each_below (chance_row l.model.model l.table l.action) l.state)
    l.fn.before l.needs
