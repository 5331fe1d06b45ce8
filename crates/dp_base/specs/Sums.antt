-- Sums and greatest values over the numbers below n.
use Rattle.std.specs.Prelude.{ℕ, zero, suc, ◌+◌, ℤ, pos, ◌+ℤ◌, List, [], ◌∷◌}
use Rattle.std.specs.Int.{int_max}

-- f 0 + .. + f (n - 1)
abbrev pub int_sum : ℕ → (ℕ → ℤ) → ℤ
int_sum zero f = pos 0
int_sum (suc n) f = int_sum n f +ℤ f n

-- the same of numbers that are not negative
abbrev pub nat_sum : ℕ → (ℕ → ℕ) → ℕ
nat_sum zero f = 0
nat_sum (suc n) f = nat_sum n f + f n

-- the numbers below n
abbrev pub numbers_below : ℕ → List ℕ
numbers_below zero = []
numbers_below (suc n) = n ∷ numbers_below n

-- the greatest of f over a list, 0 where the list is empty
abbrev pub greatest : (ℕ → ℤ) → List ℕ → ℤ
greatest f [] = pos 0
greatest f (x ∷ []) = f x
greatest f (x ∷ (y ∷ ys)) = int_max (f x) (greatest f (y ∷ ys))
