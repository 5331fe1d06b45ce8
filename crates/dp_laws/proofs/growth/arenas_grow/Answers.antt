use Rattle.dp_laws.proofs.ArenaTrees.{arena_grows_at}
use Rattle.dp_laws.proofs.growth.arenas_grow.Goals as goal

pub returns : goal.returns
returns c = arena_grows_at
