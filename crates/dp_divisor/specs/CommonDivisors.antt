-- Greatest common divisors that are found one number at a time.
use Rattle.std.specs.Prelude.{ℕ, Option, unwrap_or}

-- the number of a divisor, which is 0 where there is none
abbrev pub number_of : Option ℕ → ℕ
number_of divisor = unwrap_or divisor 0
