use Rattle.std.proofs.Common.{◌≡◌}
use Rattle.dp_num.proofs.VectorLaws.{divided_to}
use Rattle.dp_divisor.proofs.vectors.primitive.Given as goal

abbrev pub invariant-loop-at : goal.invariant-loop-at
invariant-loop-at l = l.values ≡ divided_to l.fn.values l.common l.at
