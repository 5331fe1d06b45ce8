use Rattle.std.proofs.Common.{ℕ, ◌^◌, ◌<◌, unsigned_abs}
use Rattle.std.specs.Int.{◌∣◌}
use Rattle.dp_pomdp.specs.Looking.{weights_of}
use Rattle.dp_pomdp.specs.Multiples.{IsDivisorOf}
use Rattle.dp_pomdp.proofs.reduce.common_divisor.Given as goal

abbrev pub invariant-loop-weight : goal.invariant-loop-weight
invariant-loop-weight l = record {
  small : l.common < 2 ^ 127;
  divides : (s : ℕ) → s < l.weight-index → l.common ∣ unsigned_abs (weights_of l.weights s).high;
  greatest : (d : ℕ) → IsDivisorOf d l.weights → d ∣ l.common;
}
