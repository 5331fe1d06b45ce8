use Rattle.std.proofs.Common.{take}
use Rattle.dp_writer.specs.ChanceRows.{cells_of, scale_of_row}
use Rattle.dp_writer.specs.NeededScales.{HasDigits}
use Rattle.dp_writer.proofs.needs.most_digits.Given as goal

-- the cells so far
abbrev pub invariant-loop-place : goal.invariant-loop-place
invariant-loop-place l =
    HasDigits (scale_of_row l.model.model l.row) (take l.place (cells_of l.model.model l.row)) l.most
