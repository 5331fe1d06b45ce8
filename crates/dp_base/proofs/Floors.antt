-- Division rounded down and up.
use Rattle.std.proofs.Common.{◌≡◌, ℕ, zero, suc, ◌*◌, ◌/◌, ◌<◌, ◌≤◌, ℤ, pos, negsuc, ◌*ℤ◌, neg_ℤ, ◌≤ℤ◌, unsigned_abs}
use Rattle.std.proofs.Common.{arith}
use Rattle.std.proofs.lemmas.Int.{ints}
use Rattle.std.proofs.Math.Nat.{div-lt_iff_lt-mul, div-mul-le_self, mul-le-mul_left}
use Rattle.dp_base.specs.Rounding.{ceiling_of, floor_of, mul_down, mul_up}
use Rattle.dp_base.proofs.RoundingLaws.{floor_of-le, le-ceiling_of, unsigned_abs-neg}

-- a product rounded down
pub mul_down_le : (a b : ℤ) (d : ℕ) → 0 < d → (mul_down a b d *ℤ pos d) ≤ℤ (a *ℤ b)
unfolding mul_down
mul_down_le a b d h = floor_of-le (a *ℤ b) d h

-- and rounded up
pub le_mul_up : (a b : ℤ) (d : ℕ) → 0 < d → (a *ℤ b) ≤ℤ (mul_up a b d *ℤ pos d)
unfolding mul_up
le_mul_up a b d h = le-ceiling_of (a *ℤ b) d h

-- ---- a part of a natural, rounded

quotient_most : (k n d : ℕ) → 0 < d → k ≤ n * d → k / d ≤ n
quotient_most k n d some h = let lt : k < suc n * d = omega arith in
    let q : k / d < suc n = (div-lt_iff_lt-mul some).1 lt in omega arith

-- rounded down
pub part_down : (n p d : ℕ) → 0 < d → p ≤ d
    → (pos 0 ≤ℤ mul_down (pos n) (pos p) d) × (mul_down (pos n) (pos p) d ≤ℤ pos n)
unfolding mul_down
part_down n p d some le =
    let most = mul-le-mul_left n le in
    let below = div-mul-le_self (n * p) d in
    (omega (arith, ints), omega (arith, ints, quotient_most (n * p) n d some most))

-- a quotient rounded up, of a number that is not too great
rounded : (k n d : ℕ) → 0 < d → k ≤ n * d → (pos 0 ≤ℤ ceiling_of (pos k) d) × (ceiling_of (pos k) d ≤ℤ pos n)
unfolding ceiling_of
rounded zero n d some h = let e : 0 / d ≡ 0 = omega arith in rw e (omega (arith, ints), omega (arith, ints))
rounded (suc k) n d some h = let lt : k < n * d = omega arith in let q : k / d < n = (div-lt_iff_lt-mul some).1 lt in
    (omega (arith, ints), omega (arith, ints))

-- and rounded up
pub part_up : (n p d : ℕ) → 0 < d → p ≤ d → (pos 0 ≤ℤ mul_up (pos n) (pos p) d) × (mul_up (pos n) (pos p) d ≤ℤ pos n)
unfolding mul_up
part_up n p d some le = rounded (n * p) n d some (mul-le-mul_left n le)

-- a part of a number of either sign, rounded up, is no greater in magnitude
pub part_abs : (a : ℤ) (p d : ℕ) → 0 < d → p ≤ d → unsigned_abs (mul_up a (pos p) d) ≤ unsigned_abs a
unfolding mul_up ceiling_of
part_abs (pos n) p d some le = let both = part_up n p d some le in omega (arith, ints)
part_abs (negsuc n) p d some le =
    let e = turned_twice (suc n * p) d in let q = quotient_most (suc n * p) (suc n) d some
    (mul-le-mul_left (suc n) le) in omega arith
  where
    turned_twice : (k d : ℕ) → unsigned_abs (neg_ℤ (floor_of (neg_ℤ (neg_ℤ (pos k))) d)) ≡ k / d
    turned_twice zero d = unsigned_abs-neg (pos (0 / d))
    turned_twice (suc k) d = unsigned_abs-neg (pos (suc k / d))
