use Rattle.dp_meaning.proofs.CellLaws.{near_transition}
use Rattle.dp_meaning.proofs.cells.transitions_are_nearly_given.Goals as goal

pub returns : goal.returns
returns c = near_transition
