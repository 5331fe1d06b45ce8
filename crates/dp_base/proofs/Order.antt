-- The order of whole numbers.
use Rattle.std.proofs.Common.{◌≡◌, ◌⊎◌, inl, inr, ℕ, suc, ◌+◌, ◌*◌, ◌<◌, ◌≤◌, ℤ, pos, ◌+ℤ◌, ◌*ℤ◌, ◌≤ℤ◌, arith}
use Rattle.std.specs.Int.{int_max, int_min}
use Rattle.std.proofs.lemmas.Int.{ints, clamps, by_lt_z}
use Rattle.std.proofs.Math.Nat.{mul-le-mul_left}
use borrow.Author.Differences.{up, down, product_is, le_out, lt_out}
use Rattle.dp_base.proofs.Ring.{zle_of, zle_trans, zmul_comm, zmul_le}

-- of two numbers one is at most the other
pub le_total : (a b : ℤ) → (a ≤ℤ b) ⊎ (b ≤ℤ a)
le_total a b = grind (arith, ints)

-- two numbers that are at most each other
pub equal_of_le : (a b : ℤ) → a ≤ℤ b → b ≤ℤ a → a ≡ b
equal_of_le a b p q = omega (arith, ints)

-- the same is added on the right
pub add_le_left : (a b c : ℤ) → a ≤ℤ b → (a +ℤ c) ≤ℤ (b +ℤ c)
add_le_left a b c h = omega (arith, ints)

-- and on the left
pub add_le_right : (a b c : ℤ) → b ≤ℤ c → (a +ℤ b) ≤ℤ (a +ℤ c)
add_le_right a b c h = omega (arith, ints)

-- a factor that is not 0 is cancelled on the left
pub le_of_mul_le_left : (t : ℕ) (a b : ℤ) → 0 < t → (pos t *ℤ a) ≤ℤ (pos t *ℤ b) → a ≤ℤ b
le_of_mul_le_left t a b p h =
    by_lt_z b a
    (λ lt. let more = mul-le-mul_left t (lt_out b a lt) in
    let e : t * suc (up b + down a) ≡ t * up b + t * down a + t = omega arith in
    absurd (omega (arith, product_is (pos t) a, product_is (pos t) b, le_out _ _ h)))
    (λ le. le)

-- and on the right
pub le_of_mul_le_right : (t : ℕ) (a b : ℤ) → 0 < t → (a *ℤ pos t) ≤ℤ (b *ℤ pos t) → a ≤ℤ b
le_of_mul_le_right t a b p h = le_of_mul_le_left t a b p (rw (zmul_comm (pos t) a, zmul_comm (pos t) b) h)

-- the first of two
pub le_max_left : (a b : ℤ) → a ≤ℤ int_max a b
le_max_left a b = omega (arith, ints, clamps)

-- the second of two
pub le_max_right : (a b : ℤ) → b ≤ℤ int_max a b
le_max_right a b = omega (arith, ints, clamps)

-- what is at least both
pub max_le : (a b x : ℤ) → a ≤ℤ x → b ≤ℤ x → int_max a b ≤ℤ x
max_le a b x p q = omega (arith, ints, clamps)

-- a factor on the right
pub mul_le_right : (n : ℕ) (a b : ℤ) → a ≤ℤ b → (a *ℤ pos n) ≤ℤ (b *ℤ pos n)
mul_le_right n a b h = zle_trans _ _ _ (zle_of _ _ (zmul_comm a (pos n)))
    (zle_trans _ _ _ (zmul_le n a b h) (zle_of _ _ (zmul_comm (pos n) b)))

-- the greater of two is one of them
pub max_is_either : (a b : ℤ) → (int_max a b ≡ a) ⊎ (int_max a b ≡ b)
max_is_either a b = elim (le_total a b) [
  | inl le ↦ inr (omega (arith, ints, clamps))
  | inr le ↦
      inl (omega (arith, ints, clamps))
]

-- so is the smaller
pub min_is_either : (a b : ℤ) → (int_min a b ≡ a) ⊎ (int_min a b ≡ b)
min_is_either a b = elim (le_total a b) [
  | inl le ↦ inl (omega (arith, ints, clamps))
  | inr le ↦
      inr (omega (arith, ints, clamps))
]

-- the smaller of two is at most the second
pub min_le_right : (a b : ℤ) → int_min a b ≤ℤ b
min_le_right a b = omega (arith, ints, clamps)

-- ---- cases of natural numbers

-- at most is equal or less
pub equal_or_less : (a b : ℕ) → a ≤ b → (a ≡ b) ⊎ (a < b)
equal_or_less a b h = grind arith

-- below the next is the same or less
pub last_or_before : (a b : ℕ) → a < suc b → (a ≡ b) ⊎ (a < b)
last_or_before a b h = grind arith
