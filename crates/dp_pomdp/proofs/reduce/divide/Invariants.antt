use Rattle.dp_pomdp.proofs.Multiples.{IsDividing}
use Rattle.dp_pomdp.proofs.reduce.divide.Given as goal

abbrev pub invariant-loop-at : goal.invariant-loop-at
invariant-loop-at l = IsDividing l.common l.fn.weights l.at l.weights
