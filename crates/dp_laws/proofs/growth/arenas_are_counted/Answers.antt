use Rattle.dp_laws.proofs.ArenaTrees.{tree_counted}
use Rattle.dp_laws.proofs.growth.arenas_are_counted.Goals as goal

pub returns : goal.returns
returns c = tree_counted
