-- Members of lists, of filtered lists and of the numbers below n.
use Rattle.std.proofs.Common.{◌≡◌, ◌⊎◌, inl, inr, ℕ, zero, suc, ◌<◌, Bool, true, false, cond, List, [], ◌∷◌, length}
use Rattle.std.proofs.Common.{filter, refl, sym, ap, ◌∙◌, arith}
use Rattle.dp_base.proofs.Order.{last_or_before}
use Rattle.dp_base.specs.Sums.{numbers_below}

-- a number is one of a list
abbrev pub IsIn : ℕ → List ℕ → Type 0
IsIn a [] = ⊥
IsIn a (x ∷ xs) = (a ≡ x) ⊎ IsIn a xs

-- a list with a member is not empty
pub some_in : (a : ℕ) (xs : List ℕ) → IsIn a xs → 0 < length xs
some_in a [] h = absurd h
some_in a (x ∷ xs) h = omega arith

-- each number below n is one of the numbers below n ..
pub IsIn-below : (n a : ℕ) → a < n → IsIn a (numbers_below n)
IsIn-below zero a h = absurd (omega arith)
IsIn-below (suc n) a h = elim (last_or_before a n h) [ inl e ↦ inl e | inr lt ↦ inr (IsIn-below n a lt) ]

-- .. and each of these is below n
pub below-IsIn : (n a : ℕ) → IsIn a (numbers_below n) → a < n
below-IsIn zero a h = absurd h
below-IsIn (suc n) a (inl e) = omega arith
below-IsIn (suc n) a (inr h) = let rest = below-IsIn n a h in omega arith

kept : (a x : ℕ) (xs : List ℕ) (t : Bool) → IsIn a xs → IsIn a (cond t (x ∷ xs) xs)
kept a x xs true h = inr h
kept a x xs false h = h

-- a filter keeps what passes ..
pub IsIn-filter : (p : ℕ → Bool) (a : ℕ) (xs : List ℕ) → IsIn a xs → p a ≡ true → IsIn a (filter p xs)
IsIn-filter p a [] h e = absurd h
IsIn-filter p a (x ∷ xs) (inl h) e = let px : p x ≡ true = ap p (sym h) ∙ e in rw px (inl h)
IsIn-filter p a (x ∷ xs) (inr h) e = kept a x (filter p xs) (p x) (IsIn-filter p a xs h e)

kept_in : (p : ℕ → Bool) (a x : ℕ) (xs : List ℕ) (t : Bool) → p x ≡ t
    → (IsIn a (filter p xs) → IsIn a xs × (p a ≡ true)) → IsIn a (cond t (x ∷ filter p xs) (filter p xs))
    → IsIn a (x ∷ xs) × (p a ≡ true)
kept_in p a x xs true e rest (inl same) = (inl same, ap p same ∙ e)
kept_in p a x xs true e rest (inr h) = let more = rest h in (inr more.0, more.1)
kept_in p a x xs false e rest h = let more = rest h in (inr more.0, more.1)

-- .. and what it keeps is of the list, and passes
pub filter-IsIn : (p : ℕ → Bool) (a : ℕ) (xs : List ℕ) → IsIn a (filter p xs) → IsIn a xs × (p a ≡ true)
filter-IsIn p a [] h = absurd h
filter-IsIn p a (x ∷ xs) h = kept_in p a x xs (p x) refl (filter-IsIn p a xs) h

-- a filter that all pass keeps the list
pub filter_all : (p : ℕ → Bool) (xs : List ℕ) → ((x : ℕ) → p x ≡ true) → filter p xs ≡ xs
filter_all p [] h = refl
filter_all p (x ∷ xs) h = rw (h x, filter_all p xs h)

-- tests that agree keep the same
pub filter_same : {X : Type 0} (p q : X → Bool) (xs : List X) → ((x : X) → p x ≡ q x) → filter p xs ≡ filter q xs
filter_same {X} p q xs same = ap (λ (test : X → Bool). filter test xs) (λ i x. same x i)
