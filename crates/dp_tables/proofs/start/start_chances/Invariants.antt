use Rattle.std.proofs.Common.{◌≡◌, map}
use Rattle.std.specs.List.{range_with_len}
use Rattle.dp_meaning.specs.Rows.{start_chance}
use Rattle.dp_tables.proofs.start.start_chances.Given as goal

abbrev pub invariant-loop-state : goal.invariant-loop-state
invariant-loop-state l = l.cells.items ≡ map (start_chance l.scale l.states l.start) (range_with_len 0 l.state)
