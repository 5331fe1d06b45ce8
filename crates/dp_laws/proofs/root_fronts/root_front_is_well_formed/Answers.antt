use Rattle.dp_laws.proofs.RootFront.{root_is_front}
use Rattle.dp_laws.proofs.root_fronts.root_front_is_well_formed.Goals as goal

pub returns : goal.returns
returns c = root_is_front
