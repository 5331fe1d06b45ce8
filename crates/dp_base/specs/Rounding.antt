-- Quotients rounded down and up.
use Rattle.std.specs.Prelude.{ℕ, ◌/◌, ℤ, pos, negsuc, ◌*ℤ◌, neg_ℤ}

-- the greatest whole number that is at most a / d
abbrev pub floor_of : ℤ → ℕ → ℤ
floor_of (pos n) d = pos (n / d)
floor_of (negsuc n) d = negsuc (n / d)

-- the least whole number that is at least a / d
unfoldable pub ceiling_of : ℤ → ℕ → ℤ
ceiling_of a d = neg_ℤ (floor_of (neg_ℤ a) d)

-- a * b / d, rounded down
unfoldable pub mul_down : ℤ → ℤ → ℕ → ℤ
mul_down a b d = floor_of (a *ℤ b) d

-- a * b / d, rounded up
unfoldable pub mul_up : ℤ → ℤ → ℕ → ℤ
mul_up a b d = ceiling_of (a *ℤ b) d

-- x where r is not negative, and else y
abbrev pub by_sign : ℤ → ℤ → ℤ → ℤ
by_sign (pos r) x y = x
by_sign (negsuc r) x y = y
