-- Sums of numbers of 128 bits, as loops form them one term after the other.
use Rattle.std.proofs.Common.{◌≡◌, ℕ, zero, suc, arith, ◌+◌, ◌^◌, ◌<◌, ℤ, pos, ◌+ℤ◌, ◌*ℤ◌, unsigned_abs, FitsSigned}
use Rattle.std.proofs.Common.{to_z, of_z, add-one, refl, ◌∙◌}
use Rattle.std.specs.Int.{w128, int_max}
use Rattle.std.proofs.lemmas.Int.{fits_signed_from_abs, to_z-of_z}
use Rattle.dp_base.specs.Sums.{greatest, int_sum, numbers_below}
use Rattle.dp_mdp.proofs.StepParts.{skip_zero}

-- a number of 128 bits that is read back
pub read_back : (x y : ℤ) → x ≡ y → unsigned_abs y < 2 ^ 127 → to_z w128 (of_z w128 x) ≡ y
read_back x y e small = rw e (to_z-of_z w128 y (fits_signed_from_abs w128 y small))

-- the next sum fits
pub sum_fits : (k : ℕ) (f : ℕ → ℤ) (total term : ℤ) → total ≡ int_sum k f → term ≡ f k
    → unsigned_abs (int_sum (suc k) f) < 2 ^ 127 → FitsSigned w128 (total +ℤ term)
sum_fits k f total term e t small = rw (e, t) (fits_signed_from_abs w128 _ small)

-- and is the sum of one term more
pub next_sum : (k : ℕ) (f : ℕ → ℤ) (next total term : ℤ) → next ≡ to_z w128 (of_z w128 (total +ℤ term))
    → total ≡ int_sum k f → term ≡ f k → unsigned_abs (int_sum (suc k) f) < 2 ^ 127 → next ≡ int_sum (k + 1) f
next_sum k f next total term is e t small =
    let sum : total +ℤ term ≡ int_sum (suc k) f = rw (e, t) refl in
    rw add-one (is ∙ read_back _ _ sum small)

-- a term of 0 may be left out
pub same_sum : (k : ℕ) (f : ℕ → ℤ) (next total : ℤ) → next ≡ total → total ≡ int_sum k f → f k ≡ pos 0
    → next ≡ int_sum (k + 1) f
same_sum k f next total is e none = rw add-one (skip_zero k f next (is ∙ e) none)

-- ---- products and sums of two

pub times_fits : (x y a b v : ℤ) → x ≡ a → y ≡ b → a *ℤ b ≡ v → unsigned_abs v < 2 ^ 127
    → FitsSigned w128 (x *ℤ y)
times_fits x y a b v e f is small = rw (e, f, is) (fits_signed_from_abs w128 v small)

pub times_is : (x y a b v : ℤ) → x ≡ a → y ≡ b → a *ℤ b ≡ v → unsigned_abs v < 2 ^ 127
    → to_z w128 (of_z w128 (x *ℤ y)) ≡ v
times_is x y a b v e f is small = rw (e, f) (read_back _ _ is small)

pub plus_fits : (x y a b : ℤ) → x ≡ a → y ≡ b → unsigned_abs (a +ℤ b) < 2 ^ 127 → FitsSigned w128 (x +ℤ y)
plus_fits x y a b e f small = rw (e, f) (fits_signed_from_abs w128 (a +ℤ b) small)

pub plus_is : (x y a b : ℤ) → x ≡ a → y ≡ b → unsigned_abs (a +ℤ b) < 2 ^ 127
    → to_z w128 (of_z w128 (x +ℤ y)) ≡ a +ℤ b
plus_is x y a b e f small = rw (e, f) (read_back _ _ refl small)

-- ---- the running greatest

-- of the first number
pub first_greatest : (f : ℕ → ℤ) (x : ℤ) → x ≡ f 0 → x ≡ greatest f (numbers_below 1)
first_greatest f x e = e

-- of one number more
pub next_greatest : (k : ℕ) (f : ℕ → ℤ) (next best x : ℤ) → 0 < k → next ≡ int_max x best → x ≡ f k
    → best ≡ greatest f (numbers_below k) → next ≡ greatest f (numbers_below (k + 1))
next_greatest (suc k) f next best x some is e b = rw (add-one, is, e, b) refl
next_greatest zero f next best x some is e b = absurd (omega arith)
