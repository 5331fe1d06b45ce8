use Rattle.dp_laws.proofs.ArenaTrees.{arena_starts}
use Rattle.dp_laws.proofs.growth.arenas_start.Goals as goal

pub returns : goal.returns
returns c = arena_starts
