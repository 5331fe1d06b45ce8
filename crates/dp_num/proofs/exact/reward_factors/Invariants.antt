use Rattle.std.proofs.Common.{◌≡◌, ◌^◌, ◌%◌, length}
use Rattle.dp_spec.specs.Arithmetic.{reward_factor}
use Rattle.dp_num.specs.RewardFactors.{HoldsFactors}
use Rattle.dp_num.proofs.exact.reward_factors.Given as goal

abbrev pub invariant-loop-i : goal.invariant-loop-i
invariant-loop-i l = record {
  holds : HoldsFactors l.scales l.i l.factors;
  length : length l.factors ≡ 127;
  next : l.factor ≡ reward_factor l.scales l.i % 2 ^ 128;
}
