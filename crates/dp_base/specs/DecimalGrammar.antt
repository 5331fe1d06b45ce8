-- The decimal shape by the parts of a text.
use Rattle.std.specs.Prelude.{◌≡◌, ℕ, ◌+◌, ◌<◌, ◌≤◌, ◌⊎◌, ⊤, IsTrue, List, [], ◌∷◌, ◌++◌, length}
use Rattle.std.specs.List.{list_all}
use Rattle.std.specs.Char.{is_ascii_digit}
use Rattle.dp_base.specs.Bytes.{is_sign, decimal_point}

-- digits, or nothing
abbrev pub AreDigits : List ℕ → Type 0
AreDigits digits = IsTrue (list_all is_ascii_digit digits)

-- nothing, or a sign
abbrev pub IsOptionalSign : List ℕ → Type 0
IsOptionalSign [] = ⊤
IsOptionalSign (b ∷ []) = IsTrue (is_sign b)
IsOptionalSign (b ∷ c ∷ rest) = ⊥

-- nothing, or a point
abbrev pub IsOptionalPoint : List ℕ → Type 0
IsOptionalPoint [] = ⊤
IsOptionalPoint (b ∷ []) = b ≡ decimal_point
IsOptionalPoint (b ∷ c ∷ rest) = ⊥

-- an optional sign and one to three digits
pub record IsPower (text : List ℕ) : Type 0 where
  pub sign : List ℕ
  pub digits : List ℕ
  pub text_is : text ≡ sign ++ digits
  pub sign_is : IsOptionalSign sign
  pub digits_are : AreDigits digits
  pub some : 0 < length digits
  pub few : length digits ≤ 3

-- nothing, or `e` (101) or `E` (69) and a power
abbrev pub IsOptionalExponent : List ℕ → Type 0
IsOptionalExponent [] = ⊤
IsOptionalExponent (letter ∷ power) = ((letter ≡ 101) ⊎ (letter ≡ 69)) × IsPower power

-- an optional sign; digits with at most one point before, among or after them, and at least one digit; an
-- optional exponent
pub record HasDecimalShape (text : List ℕ) : Type 0 where
  pub sign : List ℕ
  pub whole : List ℕ
  pub mark : List ℕ
  pub fraction : List ℕ
  pub exponent : List ℕ
  pub text_is : text ≡ sign ++ (whole ++ (mark ++ (fraction ++ exponent)))
  pub sign_is : IsOptionalSign sign
  pub whole_are : AreDigits whole
  pub mark_is : IsOptionalPoint mark
  pub fraction_are : AreDigits fraction
  pub some : 0 < length whole + length fraction
  pub exponent_is : IsOptionalExponent exponent
