-- The number that a text of the decimal shape writes, and what is read from it.
use Rattle.std.specs.Prelude.{◌≡◌, Result, Ok, Err, ℕ, zero, suc, ◌+◌, ◌*◌, ◌^◌, ◌/◌, ◌%◌, ◌<◌, ◌≤◌, Bool, true}
use Rattle.std.specs.Prelude.{false, ◌==◌, nat_lt, nat_le, if◌then◌else◌, List, [], ◌++◌, length, drop, slice_index}
use Rattle.std.specs.Prelude.{ℤ, pos, neg_ℤ, ◌*ℤ◌, unsigned_abs}
use Rattle.std.specs.List.{take_while}
use Rattle.std.specs.Char.{is_ascii_digit}
use Rattle.std.specs.Str.Parse.{digits_value}
use Rattle.dp_base.specs.declared.decimal.Decimal.{Decimal}
use Rattle.dp_base.specs.declared.decimal.NumFault.{NumFault}
use Rattle.dp_base.specs.declared.decimal.NumFault.TheVariants.{Shape, Large, Digits}
use Rattle.dp_base.specs.Bytes.{minus, decimal_point}
use Rattle.dp_base.specs.DecimalShape.{first, unsigned, after_digits, is_magnitude}

-- ---- the parts of a number without its sign

-- the digits before the point
abbrev pub whole : List ℕ → List ℕ
whole number = take_while is_ascii_digit number

-- of what stands behind them, the digits behind a point, or none
abbrev pub fraction : List ℕ → List ℕ
fraction rest = if first rest == decimal_point then take_while is_ascii_digit (drop 1 rest) else []

-- and what stands behind these, which is the exponent with its letter, or nothing
abbrev pub exponent : List ℕ → List ℕ
exponent rest = if first rest == decimal_point then after_digits (drop 1 rest) else rest

-- the power of ten by which an exponent multiplies, 0 where it has a minus sign
abbrev pub tens_more : List ℕ → ℕ
tens_more power = if slice_index power 1 == minus then 0 else digits_value 10 (unsigned (drop 1 power))

-- the power of ten by which an exponent divides, 0 where it has no minus sign
abbrev pub tens_less : List ℕ → ℕ
tens_less power = if slice_index power 1 == minus then digits_value 10 (unsigned (drop 1 power)) else 0

-- ---- what it writes: its significand times ten to the power `numerator_tens`, divided by ten to the power
-- `denominator_tens`

-- all its digits as one number
unfoldable pub significand : List ℕ → ℕ
significand number = digits_value 10 (whole number ++ fraction (after_digits number))

-- the power of ten by which the significand is multiplied
unfoldable pub numerator_tens : List ℕ → ℕ
numerator_tens number = tens_more (exponent (after_digits number))

-- the power of ten by which the significand is divided: its fraction digits, and what the exponent adds
unfoldable pub denominator_tens : List ℕ → ℕ
denominator_tens number = length (fraction (after_digits number)) + tens_less (exponent (after_digits number))

-- n with a sign
abbrev pub signed : Bool → ℕ → ℤ
signed negative n = if negative then neg_ℤ (pos n) else pos n

-- units / 10 ^ digits is the number that the text writes
abbrev pub Writes : List ℕ → ℤ → ℕ → Type 0
Writes text units digits =
    let number = unsigned text in
    (units *ℤ pos (10 ^ denominator_tens number)) ≡ (signed (first text == minus) (significand number) *ℤ pos
    (10 ^ (numerator_tens number + digits)))

-- and no fewer digits do
pub record WritesShortest (text : List ℕ) (units : ℤ) (digits : ℕ) : Type 0 where
  pub writes : Writes text units digits
  pub least : (other : ℤ) (fewer : ℕ) → Writes text other fewer → digits ≤ fewer

-- the magnitude of the number that the text writes is at least 10 ^ 18
abbrev pub IsLarge : List ℕ → Type 0
IsLarge text = let number = unsigned text in 10 ^ (18 + denominator_tens number) ≤ significand number
    * 10 ^ numerator_tens number

-- or below that
abbrev pub IsSmall : List ℕ → Type 0
IsSmall text = let number = unsigned text in significand number * 10 ^ numerator_tens number
    < 10 ^ (18 + denominator_tens number)

-- it is small, and the least number of its fraction digits is more than 18
pub record HasTooManyDigits (text : List ℕ) (digits : ℕ) : Type 0 where
  pub small : IsSmall text
  pub more : 18 < digits
  pub units : ℤ
  pub shortest : WritesShortest text units digits

-- ---- the same as a decimal that computes

-- a number with so many fraction digits, in the least: a last digit 0 of the fraction goes
abbrev pub shortest : Bool → ℕ → ℕ → Decimal
shortest negative units zero = record { units = signed negative units; digits = 0 }
shortest negative units (suc digits) =
    if units % 10 == 0 then shortest negative (units / 10) digits else record {
      units =
          signed negative units;
      digits = suc digits;
    }

-- the magnitude of a decimal is at least 10 ^ 18
abbrev pub is_large : Decimal → Bool
is_large d = nat_le (10 ^ (18 + d.digits)) (unsigned_abs d.units)

-- the decimal, or that it is too large, or how many fraction digits it has where these are too many
abbrev pub judged : Decimal → Result Decimal NumFault
judged d = if is_large d then Err Large else if nat_lt 18 d.digits then Err (Digits d.digits) else Ok d

-- what is read from a number without its sign, where that is of the decimal shape
abbrev pub magnitude_where : Bool → Bool → List ℕ → Result Decimal NumFault
magnitude_where true negative number = judged (shortest negative (significand number * 10 ^ numerator_tens number)
    (denominator_tens number))
magnitude_where false negative number = Err Shape

-- what is read from a text
unfoldable pub decimal_of : List ℕ → Result Decimal NumFault
decimal_of text = let number = unsigned text in magnitude_where (is_magnitude number) (first text == minus) number

-- what is known of a decimal that is read: it is the number that the text writes, with the least digits, and
-- within the limits
pub record IsRead (text : List ℕ) (d : Decimal) : Type 0 where
  pub shortest : WritesShortest text d.units d.digits
  pub magnitude : unsigned_abs d.units < 10 ^ (18 + d.digits)
  pub digits : d.digits ≤ 18
