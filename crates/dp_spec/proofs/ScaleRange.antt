-- The scales of a model are in the range of the arithmetics.
use Rattle.std.proofs.Common.{◌≡◌, ℕ, ◌^◌, ◌<◌, ◌≤◌, arith}
use Rattle.std.proofs.Math.Nat.{pow-le-pow_right}
use Rattle.dp_spec.specs.declared.scales.Scales.{Scales}
use Rattle.dp_spec.specs.Model.{AreScales}
use Rattle.dp_spec.specs.Calls.{AreInRange}

-- a power of ten of at most 18 digits
power_most : (n k : ℕ) → k ≤ 18 → n ≡ 10 ^ k → n ≤ 2 ^ 62
power_most n k le e =
    let ten : 0 < 10 = omega arith in
    let most : 10 ^ k ≤ 10 ^ 18 = pow-le-pow_right ten le in omega arith

-- scales are at most 2^62, also those that are powers of ten
pub scales_in_range : (c : Scales) → AreScales c → AreInRange c
scales_in_range c are = record {
  start = (are.start, are.start_limit);
  trans = (are.trans, are.trans_limit);
  obs = (are.obs, are.obs_limit);
  reward = (
    are.reward,
    let le : are.reward_digits.0 ≤ 18 = let nine = are.reward_digits.1 in omega arith in
        power_most c.reward are.reward_digits.0 le are.reward_digits.2,
  );
  discount = (are.discount, power_most c.discount are.discount_digits.0 are.discount_digits.1 are.discount_digits.2);
  gain = are.gain;
}
