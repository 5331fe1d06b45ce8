-- Laws of the greatest value of a function over a list, and over the numbers below n.
use Rattle.std.proofs.Common.{◌≡◌, inl, inr, ℕ, ◌<◌, ◌≤◌, ℤ, pos, ◌+ℤ◌, ◌≤ℤ◌, unsigned_abs, List, [], ◌∷◌, length}
use Rattle.std.proofs.Common.{refl, subst, arith, ◌*ℤ◌, ap, sym, ◌∙◌}
use Rattle.std.specs.Int.{int_max}
use Rattle.std.proofs.lemmas.Int.{ints, clamps}
use Rattle.dp_base.proofs.Members.{IsIn, IsIn-below, below-IsIn, some_in}
use Rattle.dp_base.proofs.Order.{le_max_left, max_le, le_total}
use Rattle.dp_base.proofs.Ring.{zle_of, zmul_le}
use Rattle.dp_base.specs.Sums.{greatest, numbers_below}
use Rattle.std.proofs.Math.IntN.{*ℤ-zero}

max_right : (a b c : ℤ) → c ≤ℤ b → c ≤ℤ int_max a b
max_right a b c h = omega (arith, ints, clamps)

-- ---- over a list

-- the greatest is at least each value ..
pub le_greatest : (f : ℕ → ℤ) (a : ℕ) (xs : List ℕ) → IsIn a xs → f a ≤ℤ greatest f xs
le_greatest f a [] h = absurd h
le_greatest f a (x ∷ []) (inl e) = subst (λ (y : ℕ). f a ≤ℤ f y) e (zle_of (f a) (f a) refl)
le_greatest f a (x ∷ []) (inr h) = absurd h
le_greatest f a (x ∷ (y ∷ ys)) (inl e) = subst (λ (z : ℕ). f a ≤ℤ int_max (f z) (greatest f (y ∷ ys))) e
    (le_max_left (f a) (greatest f (y ∷ ys)))
le_greatest f a (x ∷ (y ∷ ys)) (inr h) = max_right (f x) (greatest f (y ∷ ys)) _ (le_greatest f a (y ∷ ys) h)

-- .. and at most what is at least each value, where there is one
pub greatest_at_most : (f : ℕ → ℤ) (xs : List ℕ) (z : ℤ) → 0 < length xs → ((x : ℕ) → IsIn x xs → f x ≤ℤ z)
    → greatest f xs ≤ℤ z
greatest_at_most f [] z some h = absurd (omega arith)
greatest_at_most f (x ∷ []) z some h = h x (inl refl)
greatest_at_most f (x ∷ (y ∷ ys)) z some h = max_le _ _ z (h x (inl refl))
    (greatest_at_most f (y ∷ ys) z (omega arith) (λ a i. h a (inr i)))

-- a part of a list that is not empty has no greater one
pub greatest_of_part : (f : ℕ → ℤ) (xs ys : List ℕ) → 0 < length xs → ((a : ℕ) → IsIn a xs → IsIn a ys)
    → greatest f xs ≤ℤ greatest f ys
greatest_of_part f xs ys some part = greatest_at_most f xs (greatest f ys) some (λ a h. le_greatest f a ys (part a h))

-- equal values have equal greatest ones
pub greatest_ext : (f g : ℕ → ℤ) (xs : List ℕ) → ((a : ℕ) → IsIn a xs → f a ≡ g a) → greatest f xs ≡ greatest g xs
greatest_ext f g [] h = refl
greatest_ext f g (x ∷ []) h = h x (inl refl)
greatest_ext f g (x ∷ (y ∷ ys)) h =
    let rest : greatest f (y ∷ ys) ≡ greatest g (y ∷ ys) = greatest_ext f g (y ∷ ys) (λ a i. h a (inr i)) in
    rw (h x (inl refl), rest)

max_of_sums : (a b c d p q : ℤ) → p ≤ℤ (a +ℤ b) → q ≤ℤ (c +ℤ d) → int_max p q ≤ℤ (int_max a c +ℤ int_max b d)
max_of_sums a b c d p q h g = omega (arith, ints, clamps)

-- the greatest of sums is at most the sum of the greatest
pub greatest_of_sums : (f g e : ℕ → ℤ) (xs : List ℕ) → ((x : ℕ) → IsIn x xs → e x ≤ℤ (f x +ℤ g x))
    → greatest e xs ≤ℤ (greatest f xs +ℤ greatest g xs)
greatest_of_sums f g e [] h = zle_of (pos 0) (pos 0 +ℤ pos 0) refl
greatest_of_sums f g e (x ∷ []) h = h x (inl refl)
greatest_of_sums f g e (x ∷ (y ∷ ys)) h =
    max_of_sums (f x) (g x) (greatest f (y ∷ ys)) (greatest g (y ∷ ys)) _ _ (h x (inl refl))
    (greatest_of_sums f g e (y ∷ ys) (λ a i. h a (inr i)))

max_mono : (a b c d : ℤ) → a ≤ℤ c → b ≤ℤ d → int_max a b ≤ℤ int_max c d
max_mono a b c d p q = omega (arith, ints, clamps)

-- greater values have a greater greatest one
pub greatest_mono : (f g : ℕ → ℤ) (xs : List ℕ) → ((x : ℕ) → IsIn x xs → f x ≤ℤ g x) → greatest f xs ≤ℤ greatest g xs
greatest_mono f g [] h = zle_of (pos 0) (pos 0) refl
greatest_mono f g (x ∷ []) h = h x (inl refl)
greatest_mono f g (x ∷ (y ∷ ys)) h = max_mono _ _ _ _ (h x (inl refl))
    (greatest_mono f g (y ∷ ys) (λ a i. h a (inr i)))

abs_max : (a b : ℤ) (c : ℕ) → unsigned_abs a ≤ c → unsigned_abs b ≤ c → unsigned_abs (int_max a b) ≤ c
abs_max a b c p q = omega (arith, ints, clamps)

-- it is no larger in magnitude than the values
pub greatest_abs : (f : ℕ → ℤ) (c : ℕ) (xs : List ℕ) → ((a : ℕ) → IsIn a xs → unsigned_abs (f a) ≤ c)
    → unsigned_abs (greatest f xs) ≤ c
greatest_abs f c [] h = omega arith
greatest_abs f c (x ∷ []) h = h x (inl refl)
greatest_abs f c (x ∷ (y ∷ ys)) h = abs_max (f x) (greatest f (y ∷ ys)) c (h x (inl refl))
    (greatest_abs f c (y ∷ ys) (λ a i. h a (inr i)))

max_is_left : (a b : ℤ) → b ≤ℤ a → int_max a b ≡ a
max_is_left a b h = omega (arith, ints, clamps)

max_is_right : (a b : ℤ) → a ≤ℤ b → int_max a b ≡ b
max_is_right a b h = omega (arith, ints, clamps)

max_times : (k : ℕ) (a b : ℤ) → int_max (pos k *ℤ a) (pos k *ℤ b) ≡ pos k *ℤ int_max a b
max_times k a b =
    elim (le_total a b) [
      | inl le ↦ max_is_right _ _ (zmul_le k a b le) ∙ ap (λ (x : ℤ). pos k *ℤ x) (sym (max_is_right a b le))
      | inr le ↦ max_is_left _ _ (zmul_le k b a le) ∙ ap (λ (x : ℤ). pos k *ℤ x) (sym (max_is_left a b le))
    ]

-- the greatest of k times each is k times the greatest
pub greatest_times : (k : ℕ) (f : ℕ → ℤ) (xs : List ℕ) → greatest (λ x. pos k *ℤ f x) xs ≡ pos k *ℤ greatest f xs
greatest_times k f [] = sym (*ℤ-zero (pos k))
greatest_times k f (x ∷ []) = refl
greatest_times k f (x ∷ (y ∷ ys)) =
    ap (int_max (pos k *ℤ f x)) (greatest_times k f (y ∷ ys)) ∙ max_times k (f x) (greatest f (y ∷ ys))

-- ---- over the numbers below n

pub le_greatest_below : (f : ℕ → ℤ) (n a : ℕ) → a < n → f a ≤ℤ greatest f (numbers_below n)
le_greatest_below f n a h = le_greatest f a (numbers_below n) (IsIn-below n a h)

pub greatest_below_at_most : (f : ℕ → ℤ) (z : ℤ) (n : ℕ) → 0 < n → ((a : ℕ) → a < n → f a ≤ℤ z)
    → greatest f (numbers_below n) ≤ℤ z
greatest_below_at_most f z n some h = greatest_at_most f (numbers_below n) z (some_in 0 _ (IsIn-below n 0 some))
    (λ a i. h a (below-IsIn n a i))
