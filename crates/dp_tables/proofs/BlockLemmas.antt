-- The values of a statement over their scales.
use Rattle.std.proofs.Common.{◌≡◌, ℕ, ◌+◌, ◌*◌, ◌/◌, ◌^◌, ◌≤◌, sym, ap, subst, ◌∙◌, arith, pow-add, to_z, of_z}
use Rattle.std.specs.Int.{w64, w128}
use Rattle.std.specs.Prelude.{ℤ, pos, neg_ℤ, ◌-ℤ◌, ◌*ℤ◌, true, unsigned_abs}
use Rattle.std.proofs.lemmas.Int.{fits_signed_from_abs, to_z-of_z, ints}
use Rattle.dp_base.proofs.RoundingLaws.{unsigned_abs-neg}
use Rattle.std.proofs.Math.Nat.{mul-le-mul_right, mul_assoc}
use Rattle.dp_base.proofs.SignificandLaws.{tens_up}
use Rattle.dp_base.specs.declared.decimal.Decimal.{Decimal}
use Rattle.dp_meaning.specs.Numbers.{is_chance, is_reward}
use Rattle.dp_meaning.specs.Cells.{chance_over}
use Rattle.dp_meaning.proofs.ReadScales.{chance_parts, reward_parts}

-- a part of the scale is at most the scale
pub part_of_scale : (units tens scale : ℕ) → units ≤ tens → units * (scale / tens) ≤ scale
part_of_scale units tens scale h = let times = mul-le-mul_right (scale / tens) h in omega arith

-- the magnitude of the units of a chance
pub chance_magnitude : (d : Decimal) (n : ℕ) → is_chance d ≡ true → n ≡ unsigned_abs (to_z w128 (of_z w128 d.units))
    → n
    ≡ unsigned_abs d.units
chance_magnitude d n is e =
    let parts = chance_parts d is in
    let few = parts.0 in
    let small = parts.1 in
    let most = tens_up d.digits 18 few in
    e ∙ ap unsigned_abs (to_z-of_z w128 d.units (fits_signed_from_abs w128 _ (omega arith)))

-- a chance over its scale, as it is computed
pub record IsOver (scale : ℕ) (d : Decimal) (units tens : ℕ) : Type 0 where
  pub small : units ≤ 10 ^ 18
  pub within : units * (scale / tens) ≤ scale
  pub value : units * (scale / tens) ≡ chance_over scale d

pub chance_is_over : (scale : ℕ) (d : Decimal) (units tens : ℕ) → is_chance d ≡ true
    → units ≡ unsigned_abs (to_z w128 (of_z w128 d.units)) → tens ≡ 10 ^ d.digits → IsOver scale d units tens
chance_is_over scale d units tens is e f =
    let same = chance_magnitude d units is e in
    let parts = chance_parts d is in
    let few = parts.0 in
    let small = parts.1 in
    let most = tens_up d.digits 18 few in
    record {
      small = omega arith;
      within = part_of_scale units tens scale (omega arith);
      value = ap (λ u. u * (scale / tens)) same ∙ ap (λ t. unsigned_abs d.units * (scale / t)) f;
    }

-- a reward over a scale of at most nine fraction digits is at most 10^17
pub reward_within : (scale : ℕ) (d : Decimal) (tens : ℕ) → scale ≤ 10 ^ 9 → is_reward d ≡ true → tens ≡ 10 ^ d.digits
    → unsigned_abs d.units * (scale / tens) ≤ 10 ^ 17
reward_within scale d tens small is e =
    let parts = reward_parts d is in
    let units = parts.1 in
    let split : 10 ^ (8 + d.digits) ≡ 10 ^ 8 * tens = pow-add 10 8 d.digits ∙ ap (λ n. 10 ^ 8 * n) (sym e) in
    bound (unsigned_abs d.units) tens scale (omega arith) small
  where
    bound : (u t s : ℕ) → u ≤ 10 ^ 8 * t → s ≤ 10 ^ 9 → u * (s / t) ≤ 10 ^ 17
    bound u t s h g =
        let times = mul-le-mul_right (s / t) h in
        let inner : t * (s / t) ≤ s = omega arith in
        let same : 10 ^ 8 * t * (s / t) ≡ 10 ^ 8 * (t * (s / t)) = mul_assoc (10 ^ 8) t (s / t) in omega arith

-- the units of a reward, as they are passed
pub reward_units : (d : Decimal) → is_reward d ≡ true → to_z w128 (of_z w128 d.units) ≡ d.units
reward_units d is =
    let parts = reward_parts d is in
    let few = parts.0 in
    let units = parts.1 in
    let most = tens_up (8 + d.digits) 17 (omega arith) in
    to_z-of_z w128 d.units (fits_signed_from_abs w128 _ (omega arith))

-- a reward over its scale, as it is computed
pub reward_is : (scale : ℕ) (d : Decimal) (tens : ℕ) (z : ℤ) → is_reward d ≡ true → tens ≡ 10 ^ d.digits
    → z ≡ (to_z w128 (of_z w128 d.units) *ℤ pos (scale / tens)) → z ≡ (d.units *ℤ pos (scale / 10 ^ d.digits))
reward_is scale d tens z is e f =
    f ∙ ap (λ u. u *ℤ pos (scale / tens)) (reward_units d is) ∙ ap (λ t. d.units *ℤ pos (scale / t)) e

pub kept_small : (z : ℤ) → unsigned_abs z ≤ 10 ^ 17 → to_z w64 (of_z w64 z) ≡ z
kept_small z h = to_z-of_z w64 z (fits_signed_from_abs w64 _ (omega arith))

neg_is : (z : ℤ) → (pos 0 -ℤ z) ≡ neg_ℤ z
neg_is z = omega (arith, ints)

-- a small reward that is negated
pub negated : (z : ℤ) → unsigned_abs z ≤ 10 ^ 17 → to_z w64 (of_z w64 (pos 0 -ℤ to_z w64 (of_z w64 z))) ≡ neg_ℤ z
negated z h =
    ap (λ x. to_z w64 (of_z w64 (pos 0 -ℤ x))) (kept_small z h) ∙ ap (λ x. to_z w64 (of_z w64 x)) (neg_is z)
    ∙ kept_small (neg_ℤ z) (subst (λ n. n ≤ 10 ^ 17) (sym (unsigned_abs-neg z)) h)
