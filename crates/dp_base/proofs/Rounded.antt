-- Rounded quotients by a positive divisor of a signed type.
use Rattle.std.proofs.Common.{◌≡◌, ◌*◌, ◌^◌, ◌<◌, ℤ, pos, negsuc, ◌+ℤ◌, ◌*ℤ◌, ◌≤ℤ◌, ◌<ℤ◌, unsigned_abs, arith}
use Rattle.std.proofs.lemmas.Int.{ints, unsigned_abs-mul, fits_signed_from_abs}
use mir.Syntax.{w128}
use mir.Val.{SFits}
use Rattle.dp_base.specs.Rounding.{floor_of, ceiling_of}
use Rattle.dp_base.proofs.RoundingLaws.{floor_of-le, lt-floor_of, le-ceiling_of, ceiling_of-lt}

-- a product whose magnitude has 127 bits fits its type
pub product_fits : (a b : ℤ) → unsigned_abs a * unsigned_abs b < 2 ^ 127 → SFits w128 (a *ℤ b)
product_fits a b room = fits_signed_from_abs w128 (a *ℤ b) (rw unsigned_abs-mul room)

-- a floor times the divisor is not above the number
pub floor_below : (z d r : ℤ) → pos 1 ≤ℤ d → r ≡ floor_of z (unsigned_abs d) → (r *ℤ d) ≤ℤ z
floor_below z (pos d) r some e = rw e (floor_of-le z d (omega (arith, ints)))
floor_below z (negsuc d) r some e = absurd (omega (arith, ints))

-- and less than the divisor below it
pub floor_close : (z d r : ℤ) → pos 1 ≤ℤ d → r ≡ floor_of z (unsigned_abs d) → z <ℤ (r *ℤ d +ℤ d)
floor_close z (pos d) r some e = rw e (lt-floor_of z d (omega (arith, ints)))
floor_close z (negsuc d) r some e = absurd (omega (arith, ints))

-- a ceiling times the divisor is not below the number
pub ceiling_above : (z d r : ℤ) → pos 1 ≤ℤ d → r ≡ ceiling_of z (unsigned_abs d) → z ≤ℤ (r *ℤ d)
ceiling_above z (pos d) r some e = rw e (le-ceiling_of z d (omega (arith, ints)))
ceiling_above z (negsuc d) r some e = absurd (omega (arith, ints))

-- and less than the divisor above it
pub ceiling_close : (z d r : ℤ) → pos 1 ≤ℤ d → r ≡ ceiling_of z (unsigned_abs d) → (r *ℤ d) <ℤ (z +ℤ d)
ceiling_close z (pos d) r some e = rw e (ceiling_of-lt z d (omega (arith, ints)))
ceiling_close z (negsuc d) r some e = absurd (omega (arith, ints))
