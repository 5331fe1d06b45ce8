use Rattle.dp_meaning.proofs.CellLaws.{near_observation}
use Rattle.dp_meaning.proofs.cells.observations_are_nearly_given.Goals as goal

pub returns : goal.returns
returns c = near_observation
