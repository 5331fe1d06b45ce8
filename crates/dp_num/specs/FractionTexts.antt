-- The text of a fraction: its value in millionths, rounded, with six digits behind the point.
use Rattle.std.specs.Prelude.{ℕ, zero, suc, ◌+◌, ◌/◌, ◌%◌, ◌^◌, Bool, true, false, List, [], ◌∷◌, ◌++◌, ℤ, pos}
use Rattle.std.specs.Prelude.{negsuc, ◌*ℤ◌}
use Rattle.std.specs.Prelude.{decimal, unsigned_abs}
use Rattle.dp_base.specs.Bytes.{minus, decimal_point}
use Rattle.dp_base.specs.Rounding.{floor_of, ceiling_of}

-- num / den in millionths, rounded down, or up
abbrev pub millionths : ℤ → ℕ → Bool → ℤ
millionths num den false = floor_of (num *ℤ pos (10 ^ 6)) den
millionths num den true = ceiling_of (num *ℤ pos (10 ^ 6)) den

-- the last k digits of n, with zeros before them where n has fewer
abbrev pub last_digits : ℕ → ℕ → List ℕ
last_digits zero n = []
last_digits (suc k) n = last_digits k (n / 10) ++ ((48 + n % 10) ∷ [])

-- the sign of a number: a dash where it is below 0
abbrev pub sign_text : ℤ → List ℕ
sign_text (pos n) = []
sign_text (negsuc n) = minus ∷ []

-- n millionths: wholes, the point and six digits
abbrev pub millionths_text : ℕ → List ℕ
millionths_text n = decimal (n / 10 ^ 6) ++ (decimal_point ∷ last_digits 6 n)

-- num / den with six digits behind the point, rounded down, or up
unfoldable pub fraction_text : ℤ → ℕ → Bool → List ℕ
fraction_text num den up =
    sign_text (millionths num den up) ++ millionths_text (unsigned_abs (millionths num den up))
