use Rattle.dp_laws.proofs.LowTrees.{low_trees_are_closed}
use Rattle.dp_laws.proofs.growth.low_trees_are_closed.Goals as goal

pub returns : goal.returns
returns c = low_trees_are_closed
