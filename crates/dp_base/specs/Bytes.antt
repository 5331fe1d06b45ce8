-- The bytes of names and numbers.
use Rattle.std.specs.Prelude.{ℕ, Bool, ◌||◌, ◌==◌}
use Rattle.std.specs.Char.{is_ascii_alphanumeric}

-- `+`, a sign
abbrev pub plus : ℕ
plus = 43

-- `-`, a sign
abbrev pub minus : ℕ
minus = 45

-- `.`, the decimal point
abbrev pub decimal_point : ℕ
decimal_point = 46

-- `_`, which may stand in names
abbrev pub underscore : ℕ
underscore = 95

-- `+` or `-`
abbrev pub is_sign : ℕ → Bool
is_sign b = b == plus || b == minus

-- the bytes of which names and numbers consist: letters `A-Z a-z`, digits, `_`, `.`, `+` and `-`
abbrev pub is_name_byte : ℕ → Bool
is_name_byte b = ((is_ascii_alphanumeric b || b == underscore) || b == decimal_point) || is_sign b
