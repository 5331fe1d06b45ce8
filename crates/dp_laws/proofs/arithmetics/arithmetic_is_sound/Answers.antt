use Rattle.dp_laws.proofs.Modes.{arithmetic_sound}
use Rattle.dp_laws.proofs.arithmetics.arithmetic_is_sound.Goals as goal

pub returns : goal.returns
returns c = arithmetic_sound
