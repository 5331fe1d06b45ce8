-- A rounded quotient times its divisor lies less than the divisor from the number.
use Rattle.std.proofs.Common.{◌≡◌, ℕ, ◌*◌, ◌<◌, ℤ, pos, negsuc, ◌+ℤ◌, ◌*ℤ◌, neg_ℤ, ◌≤ℤ◌, unsigned_abs, ap, arith}
use Rattle.std.proofs.lemmas.Int.{ints}
use lib.Signed.{◌<ℤ◌}
use borrow.Author.Differences.{up, down, product_is, neg_is}
use Rattle.std.proofs.Math.Nat.{div-mul-le_self}
use Rattle.dp_base.specs.Rounding.{floor_of, ceiling_of}

-- a negated number has the same magnitude
pub unsigned_abs-neg : (a : ℤ) → unsigned_abs (neg_ℤ a) ≡ unsigned_abs a
unsigned_abs-neg a = omega (arith, ints)

-- the floor times the divisor is not above the number
pub floor_of-le : (a : ℤ) (d : ℕ) → 0 < d → (floor_of a d *ℤ pos d) ≤ℤ a
floor_of-le (pos n) d some = omega (arith, ints, div-mul-le_self n d)
floor_of-le (negsuc n) d some = omega (arith, ints)

-- and less than the divisor below it
pub lt-floor_of : (a : ℤ) (d : ℕ) → 0 < d → a <ℤ (floor_of a d *ℤ pos d +ℤ pos d)
lt-floor_of (pos n) d some = omega (arith, ints)
lt-floor_of (negsuc n) d some = omega (arith, ints, div-mul-le_self n d)

-- the parts of a negated product
negated_product : (f : ℤ) (d : ℕ) → (up (neg_ℤ f) * d ≡ down f * d) × (down (neg_ℤ f) * d ≡ up f * d)
negated_product f d = (ap (λ (n : ℕ). n * d) (neg_is f).0, ap (λ (n : ℕ). n * d) (neg_is f).1)

-- the ceiling times the divisor is not below the number
pub le-ceiling_of : (a : ℤ) (d : ℕ) → 0 < d → a ≤ℤ (ceiling_of a d *ℤ pos d)
unfolding ceiling_of
le-ceiling_of a d some = turned a (floor_of (neg_ℤ a) d) d (floor_of-le (neg_ℤ a) d some)
  where
    turned : (a f : ℤ) (d : ℕ) → (f *ℤ pos d) ≤ℤ neg_ℤ a → a ≤ℤ (neg_ℤ f *ℤ pos d)
    turned a f d h = omega (
      arith,
      ints,
      product_is f (pos d),
      product_is (neg_ℤ f) (pos d),
      neg_is f,
      neg_is a,
      negated_product f d,
    )

-- and less than the divisor above it
pub ceiling_of-lt : (a : ℤ) (d : ℕ) → 0 < d → (ceiling_of a d *ℤ pos d) <ℤ (a +ℤ pos d)
unfolding ceiling_of
ceiling_of-lt a d some = turned a (floor_of (neg_ℤ a) d) d (lt-floor_of (neg_ℤ a) d some)
  where
    turned : (a f : ℤ) (d : ℕ) → neg_ℤ a <ℤ (f *ℤ pos d +ℤ pos d) → (neg_ℤ f *ℤ pos d) <ℤ (a +ℤ pos d)
    turned a f d h = omega (
      arith,
      ints,
      product_is f (pos d),
      product_is (neg_ℤ f) (pos d),
      neg_is f,
      neg_is a,
      negated_product f d,
    )
