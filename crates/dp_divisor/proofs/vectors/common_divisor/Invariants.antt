use Rattle.std.proofs.Common.{map, take, unsigned_abs}
use Rattle.dp_spec.specs.Primitive.{IsGcdOf}
use Rattle.dp_divisor.specs.CommonDivisors.{number_of}
use Rattle.dp_divisor.proofs.vectors.common_divisor.Given as goal

abbrev pub invariant-loop-value : goal.invariant-loop-value
invariant-loop-value l = IsGcdOf (take l.value-index (map unsigned_abs l.values)) (number_of l.common)
