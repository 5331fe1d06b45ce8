-- The scale with which written rows are read.
use Rattle.std.proofs.Common.{◌≡◌, ℕ, zero, suc, ◌+◌, ◌-◌, ◌^◌, ◌<◌, ◌≤◌, Bool, true, false, List, [], ◌∷◌, length}
use Rattle.std.proofs.Common.{get_or, max}
use Rattle.std.proofs.Common.{pos, refl, sym, ap, subst, ◌∙◌, arith}
use Rattle.std.specs.Int.{◌∣◌}
use Rattle.std.specs.List.{fold, list_any}
use Rattle.std.proofs.Math.Bool.{or-true}
use Rattle.std.proofs.Math.Nat.{dvd-mul_right}
use Rattle.std.proofs.lemmas.Nat.{pow-add}
use Rattle.std.proofs.lemmas.Nat.Gcd.{dvd_trans}
use Rattle.dp_base.proofs.DivisorLaws.{lcm_of-IsLcm}
use Rattle.dp_base.proofs.SignificandLaws.{tens_up}
use Rattle.dp_meaning.specs.Scales.{scale_of}
use Rattle.dp_writer.specs.Writable.{row_digits, written_scale}
use Rattle.dp_writer.specs.WriterLaws.{WrittenScalesHaveRoom, fraction_digits}
use Rattle.dp_writer.specs.WrittenModel.{are_equal}
use Rattle.dp_writer.specs.WrittenNumbers.{decimal_over}

-- the greatest is at least where it began, and at least each
module _ {A : Type 0} (g : A → ℕ) where
  pub from_first : (m : ℕ) (xs : List A) → m ≤ fold (λ most x. max most (g x)) m xs
  from_first m [] = omega arith
  from_first m (x ∷ xs) = omega (arith, from_first (max m (g x)) xs)

  pub from_each : (m : ℕ) (xs : List A) (i : ℕ) (d : A) → i < length xs
      → g (get_or xs i d) ≤ fold (λ most x. max most (g x)) m xs
  from_each m [] i d lt = absurd (omega (arith, lt))
  from_each m (x ∷ xs) zero d lt = omega (arith, from_first (max m (g x)) xs)
  from_each m (x ∷ xs) (suc i) d lt = from_each (max m (g x)) xs i d (omega (arith, lt))

-- one of them passes
one_passes : {A : Type 0} (p : A → Bool) (xs : List A) (i : ℕ) (d : A) → i < length xs → p (get_or xs i d) ≡ true
    → list_any p xs ≡ true
one_passes p [] i d lt passes = absurd (omega (arith, lt))
one_passes p (x ∷ xs) zero d lt passes = rw passes refl
one_passes p (x ∷ xs) (suc i) d lt passes = rw (one_passes p xs i d (omega (arith, lt)) passes) (or-true (p x))

-- fewer tens divide more
pub tens_divide : (a b : ℕ) → a ≤ b → 10 ^ a ∣ 10 ^ b
tens_divide a b le =
    let split : b ≡ a + (b - a) = omega (arith, le) in
    subst (λ k. 10 ^ a ∣ k) (sym (ap (λ e. 10 ^ e) split ∙ pow-add 10 a (b - a)))
    (dvd-mul_right (10 ^ a) (10 ^ (b - a)))

-- ten to the digits divides the scale, and so does the length of uniform rows
digits_divide : (digits : ℕ) (uniform : Bool) (len : ℕ) → 10 ^ digits ∣ scale_of digits uniform len
digits_divide digits true len =
    (lcm_of-IsLcm (10 ^ digits) len (omega (arith, tens_up 0 digits (omega arith)))).of_left
digits_divide digits false len = tens_divide digits digits (omega arith)

length_divides : (digits len : ℕ) → len ∣ scale_of digits true len
length_divides digits len =
    (lcm_of-IsLcm (10 ^ digits) len (omega (arith, tens_up 0 digits (omega arith)))).of_right

-- the digits of a cell of a row of decimals are among those of the row
of_row : (scale : ℕ) (cells : List ℕ) (j : ℕ) → are_equal cells ≡ false → j < length cells
    → fraction_digits scale (get_or cells j 0) ≤ row_digits scale cells
of_row scale cells j differ lt =
    rw differ (from_each (λ n. (decimal_over 18 (pos n) scale).digits) 0 cells j 0 lt)

-- the scale has room
pub scales_have_room : WrittenScalesHaveRoom
unfolding written_scale
scales_have_room scale len rows i lt =
    let row = get_or rows i [] in
    let digits = fold (λ most r. max most (row_digits scale r)) 0 rows in
    let uniform = list_any are_equal rows in (
      λ equal. subst (λ u. len ∣ scale_of digits u len) (sym (one_passes are_equal rows i [] lt equal))
          (length_divides digits len),
      λ j differ below. dvd_trans (10 ^ fraction_digits scale (get_or row j 0))
          (tens_divide (fraction_digits scale (get_or row j 0)) digits
          (omega (arith, of_row scale row j differ below, from_each (row_digits scale) 0 rows i [] lt)))
          (digits_divide digits uniform len),
    )
