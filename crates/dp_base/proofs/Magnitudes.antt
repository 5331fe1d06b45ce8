-- The value of a number, by its parts.
use Rattle.std.proofs.Common.{◌≡◌, ℕ, ◌+◌, ◌*◌, ◌^◌, Bool, true, false, eqb, ltb, List, ◌++◌, drop, Result, refl, sym}
use Rattle.std.proofs.Common.{ap, ◌∙◌, arith}
use Rattle.std.specs.Char.{is_ascii_digit}
use Rattle.std.specs.List.{take_while}
use Rattle.std.specs.Str.Parse.{digits_value}
use Rattle.std.proofs.lemmas.Bool.{eq-eqb, ne_eqb, lt-ltb}
use Rattle.std.proofs.lemmas.List.{append-nil}
use Rattle.std.proofs.lemmas.List.Folds.{length-prefix_len}
use Rattle.dp_base.specs.declared.decimal.Decimal.{Decimal}
use Rattle.dp_base.specs.declared.decimal.NumFault.{NumFault}
use Rattle.dp_base.specs.DecimalShape.{first, digit_count, after_digits, is_exponent, is_magnitude}
use Rattle.dp_base.specs.Decimals.{significand, numerator_tens, denominator_tens, tens_more, tens_less, judged}
use Rattle.dp_base.specs.Decimals.{shortest, magnitude_where}

-- of a significand over and under powers of ten
abbrev value : Bool → ℕ → ℕ → ℕ → Result Decimal NumFault
value negative n up down = judged (shortest negative (n * 10 ^ up) down)

-- the answer, from the parts of the number
by_parts : (negative : Bool) (number : List ℕ) (n up down : ℕ) → is_magnitude number ≡ true → significand number ≡ n
    → numerator_tens number ≡ up → denominator_tens number ≡ down
    → magnitude_where (is_magnitude number) negative number ≡ value negative n up down
by_parts negative number n up down shape e f g =
    ap (λ b. magnitude_where b negative number) shape ∙ ap
    (λ k. value negative k (numerator_tens number) (denominator_tens number)) e
    ∙ ap (λ k. value negative n k (denominator_tens number)) f ∙ ap (value negative n up) g

module _ (number : List ℕ) where
  -- what stands behind its first digits
  abbrev rest : List ℕ
  rest = after_digits number

  -- with a point
  module _ (hit : eqb (first rest) 46 ≡ true) where
    pub pointed_shape : ltb 0 (digit_count number + digit_count (drop 1 rest)) ≡ true
        → is_exponent (after_digits (drop 1 rest)) ≡ true → is_magnitude number ≡ true
    pointed_shape some exp = rw (hit, some, exp) refl

    pointed_digits : significand number
        ≡ digits_value 10 (take_while is_ascii_digit number ++ take_while is_ascii_digit (drop 1 rest))
    unfolding significand
    pointed_digits = rw hit refl

    pointed_numerator : numerator_tens number ≡ tens_more (after_digits (drop 1 rest))
    unfolding numerator_tens
    pointed_numerator = rw hit refl

    pointed_denominator : denominator_tens number ≡ digit_count (drop 1 rest) + tens_less (after_digits (drop 1 rest))
    unfolding denominator_tens
    pointed_denominator = rw (hit, length-prefix_len is_ascii_digit (drop 1 rest)) refl

  -- without one
  module _ (miss : eqb (first rest) 46 ≡ false) where
    pub plain_shape : ltb 0 (digit_count number) ≡ true → is_exponent rest ≡ true → is_magnitude number ≡ true
    plain_shape some exp = rw (miss, some, exp) refl

    plain_digits : significand number ≡ digits_value 10 (take_while is_ascii_digit number)
    unfolding significand
    plain_digits = rw (miss, append-nil (take_while is_ascii_digit number)) refl

    plain_numerator : numerator_tens number ≡ tens_more rest
    unfolding numerator_tens
    plain_numerator = rw miss refl

    plain_denominator : denominator_tens number ≡ 0 + tens_less rest
    unfolding denominator_tens
    plain_denominator = rw miss refl

-- the digits at the front of a number, and what stands behind them
pub record Begins (number rest : List ℕ) (count : ℕ) : Type 0 where
  pub count_is : count ≡ digit_count number
  pub rest_is : rest ≡ drop count number

-- a point, digits and what stands behind them
pub record Behind (rest after exponent : List ℕ) (count : ℕ) : Type 0 where
  pub point_is : first rest ≡ 46
  pub after_is : after ≡ drop 1 rest
  pub count_is : count ≡ digit_count after
  pub exponent_is : exponent ≡ drop count after

-- the answer for a number with a point, from the parts that the code has
pub same_pointed : (negative : Bool) (number rest after exponent : List ℕ) (whole fraction : ℕ)
    → Begins number rest whole → Behind rest after exponent fraction
    → (whole + fraction ≡ 0 → ⊥) → is_exponent exponent ≡ true
    → judged (shortest negative (digits_value 10 (take_while is_ascii_digit number ++ take_while is_ascii_digit after)
    * 10 ^ tens_more exponent) (fraction + tens_less exponent))
    ≡ magnitude_where (is_magnitude number) negative number
same_pointed negative number rest after exponent whole fraction b p none exp =
    let hit : eqb (first (after_digits number)) 46 ≡ true =
    rw (← b.count_is, ← b.rest_is) (eq-eqb (first rest) 46 p.point_is) in
    let some : ltb 0 (digit_count number + digit_count (drop 1 (after_digits number))) ≡ true =
    rw (← b.count_is, ← b.rest_is, ← p.after_is, ← p.count_is) (lt-ltb 0 (whole + fraction) (omega arith)) in
    let shape : is_exponent (after_digits (drop 1 (after_digits number))) ≡ true =
    rw (← b.count_is, ← b.rest_is, ← p.after_is, ← p.count_is, ← p.exponent_is) exp in
    rw (
      p.exponent_is,
      p.count_is,
      p.after_is,
      b.rest_is,
      b.count_is,
    ) (sym (by_parts negative number _ _ _ (pointed_shape number hit some shape)
    (pointed_digits number hit) (pointed_numerator number hit) (pointed_denominator number hit)))

-- and for one without
pub same_plain : (negative : Bool) (number rest : List ℕ) (whole : ℕ) → Begins number rest whole
    → (first rest ≡ 46 → ⊥) → (whole ≡ 0 → ⊥) → is_exponent rest ≡ true
    → judged (shortest negative (digits_value 10 (take_while is_ascii_digit number) * 10 ^ tens_more rest)
    (0 + tens_less rest))
    ≡ magnitude_where (is_magnitude number) negative number
same_plain negative number rest whole b other none exp =
    let miss : eqb (first (after_digits number)) 46 ≡ false =
    rw (← b.count_is, ← b.rest_is) (ne_eqb (first rest) 46 other) in
    let some : ltb 0 (digit_count number) ≡ true = rw (← b.count_is) (lt-ltb 0 whole (omega arith)) in
    let shape : is_exponent (after_digits number) ≡ true = rw (← b.count_is, ← b.rest_is) exp in
    rw (b.rest_is, b.count_is) (sym (by_parts negative number _ _ _ (plain_shape number miss some shape)
    (plain_digits number miss) (plain_numerator number miss) (plain_denominator number miss)))
