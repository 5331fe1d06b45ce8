use Rattle.dp_laws.proofs.Zeros.{mode_keeps_zero}
use Rattle.dp_laws.proofs.arithmetics.arithmetic_keeps_zero.Goals as goal

pub returns : goal.returns
returns c = mode_keeps_zero
