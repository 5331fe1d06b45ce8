-- Decimals as they are written: with the least number of fraction digits. (Own.)
use Rattle.std.specs.Prelude.{ℕ, zero, suc, ◌+◌, ◌*◌, ◌/◌, ◌%◌, ◌^◌, ℤ, pos, negsuc, unsigned_abs, Bool, true, false}
use Rattle.std.specs.Prelude.{List, [], ◌∷◌, ◌++◌}
use Rattle.std.specs.Fmt.{decimal}
use Rattle.dp_base.specs.declared.decimal.Decimal.{Decimal}
use Rattle.dp_base.specs.Bytes.{decimal_point, minus}
use Rattle.dp_base.specs.Decimals.{shortest}

-- a number below 0
abbrev pub is_below_zero : ℤ → Bool
is_below_zero (pos n) = false
is_below_zero (negsuc n) = true

-- n over a scale as a decimal with the least number of fraction digits, where `most` of them are enough
unfoldable pub decimal_over : ℕ → ℤ → ℕ → Decimal
decimal_over most n scale = shortest (is_below_zero n) (unsigned_abs n * 10 ^ most / scale) most

-- the last digits of n, so many of them
abbrev pub last_digits : ℕ → ℕ → List ℕ
last_digits zero n = []
last_digits (suc k) n = last_digits k (n / 10) ++ (48 + n % 10) ∷ []

-- nothing, or a minus sign
abbrev pub sign_text : Bool → List ℕ
sign_text true = minus ∷ []
sign_text false = []

-- the fraction digits of units / 10 ^ digits: nothing where there are none, or a point and so many of them
abbrev pub fraction_text : ℕ → ℕ → List ℕ
fraction_text units zero = []
fraction_text units (suc k) = decimal_point ∷ last_digits (suc k) (units % 10 ^ suc k)

-- units / 10 ^ digits: the whole part, which is 0 below 1, and the fraction digits
abbrev pub magnitude_text : ℕ → ℕ → List ℕ
magnitude_text units digits = decimal (units / 10 ^ digits) ++ fraction_text units digits

-- the same with a sign
unfoldable pub decimal_text : Decimal → List ℕ
decimal_text d = sign_text (is_below_zero d.units) ++ magnitude_text (unsigned_abs d.units) d.digits
