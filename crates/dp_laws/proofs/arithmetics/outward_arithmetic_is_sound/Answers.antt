use Rattle.dp_laws.proofs.OutwardArithmetic.{outward_sound}
use Rattle.dp_laws.proofs.arithmetics.outward_arithmetic_is_sound.Goals as goal

pub returns : goal.returns
returns c = outward_sound
