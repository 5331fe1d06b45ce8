use Rattle.dp_meaning.proofs.CellLaws.{near_start}
use Rattle.dp_meaning.proofs.cells.start_is_nearly_given.Goals as goal

pub returns : goal.returns
returns c = near_start
