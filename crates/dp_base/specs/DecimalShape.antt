-- The decimal shape of a text: an optional sign; digits with at most one point before, among or after them,
-- and at least one digit; optionally `e` or `E`, an optional sign and one to three digits.
use Rattle.std.specs.Prelude.{ℕ, ◌+◌, Bool, ◌&&◌, ◌||◌, ◌==◌, nat_lt, nat_le, if◌then◌else◌, List, length, drop}
use Rattle.std.specs.Prelude.{slice_index}
use Rattle.std.specs.List.{prefix_len, list_all}
use Rattle.std.specs.Char.{is_ascii_digit}
use Rattle.dp_base.specs.Bytes.{is_sign, decimal_point}

-- the first byte, or 0
abbrev pub first : List ℕ → ℕ
first text = slice_index text 0

-- what stands after a sign, where there is one
abbrev pub unsigned : List ℕ → List ℕ
unsigned text = if is_sign (first text) then drop 1 text else text

-- how many digits stand at the front
abbrev pub digit_count : List ℕ → ℕ
digit_count text = prefix_len is_ascii_digit text

-- what stands after the digits at the front
abbrev pub after_digits : List ℕ → List ℕ
after_digits text = drop (digit_count text) text

-- one to three digits
abbrev pub is_power : List ℕ → Bool
is_power text = (nat_le 1 (length text) && nat_le (length text) 3) && list_all is_ascii_digit text

-- nothing, or `e` (101) or `E` (69), an optional sign and one to three digits
abbrev pub is_exponent : List ℕ → Bool
is_exponent text = length text == 0 || ((first text == 101 || first text == 69) && is_power (unsigned (drop 1 text)))

-- digits, and behind a point more of them, at least one in all; then an exponent
abbrev pub is_magnitude : List ℕ → Bool
is_magnitude text =
    let rest = after_digits text in
    if first rest == decimal_point
    then nat_lt 0 (digit_count text + digit_count (drop 1 rest)) && is_exponent (after_digits (drop 1 rest))
    else nat_lt 0 (digit_count text) && is_exponent rest

-- a text of the decimal shape
unfoldable pub is_decimal : List ℕ → Bool
is_decimal text = is_magnitude (unsigned text)

-- an index: digits alone, and at least one
unfoldable pub is_index : List ℕ → Bool
is_index text = nat_lt 0 (length text) && list_all is_ascii_digit text
