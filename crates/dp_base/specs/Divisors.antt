-- Greatest common divisors and least common multiples.
use Rattle.std.specs.Prelude.{ℕ, zero, suc, ◌+◌, ◌*◌, ◌/◌, ◌%◌}
use Rattle.std.specs.Int.{◌∣◌}

-- m is the least common multiple of a and b: a multiple of both, and each multiple of both is one of m
pub record IsLcm (a b m : ℕ) : Type 0 where
  pub of_left : a ∣ m
  pub of_right : b ∣ m
  pub least : (k : ℕ) → a ∣ k → b ∣ k → m ∣ k

-- ---- the same as numbers that compute, for definitions

-- Euclid's algorithm, with at most so many steps
abbrev pub gcd_within : ℕ → ℕ → ℕ → ℕ
gcd_within zero a b = a
gcd_within (suc steps) a zero = a
gcd_within (suc steps) a (suc b) = gcd_within steps (suc b) (a % suc b)

-- the greatest common divisor
unfoldable pub gcd_of : ℕ → ℕ → ℕ
gcd_of a b = gcd_within (b + 1) a b

-- the least common multiple of two numbers above 0
unfoldable pub lcm_of : ℕ → ℕ → ℕ
lcm_of a b = a / gcd_of a b * b
