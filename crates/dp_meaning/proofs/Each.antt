-- What each element of a list has.
use Rattle.std.proofs.Common.{ℕ, zero, suc, ◌+◌, Bool, true, false, cond, List, [], ◌∷◌, ◌++◌, get_or, map, sym}
use Rattle.std.proofs.Common.{subst, arith}
use Rattle.std.specs.Prelude.{filter, reverse, All}
use Rattle.std.specs.List.{range_with_len}
use Rattle.std.proofs.lemmas.List.{reverse-append}

-- each element has the property
abbrev pub Each : {X : Type 0} → (X → Type 0) → List X → Type 0
Each P [] = Unit {0}
Each P (x ∷ xs) = P x × Each P xs

-- so has the one at a place, where the default has it
pub each_at : {X : Type 0} (P : X → Type 0) (xs : List X) (k : ℕ) (d : X) → Each P xs → P d → P (get_or xs k d)
each_at P [] k d each h = h
each_at P (x ∷ xs) zero d each h = each.0
each_at P (x ∷ xs) (suc k) d each h = each_at P xs k d each.1 h

pub all_from_each : {X : Type 0} (P : X → Type 0) (xs : List X) → Each P xs → All P xs
all_from_each P [] each k d h = absurd (omega arith)
all_from_each P (x ∷ xs) each zero d h = each.0
all_from_each P (x ∷ xs) each (suc k) d h = all_from_each P xs each.1 k d (omega arith)

pub each_with : {X : Type 0} (P Q : X → Type 0) (xs : List X) → Each P xs → Each Q xs → Each (λ x. P x × Q x) xs
each_with P Q [] p q = tt
each_with P Q (x ∷ xs) p q = ((p.0, q.0), each_with P Q xs p.1 q.1)

pub each_from : {X : Type 0} (P Q : X → Type 0) → ((x : X) → P x → Q x) → (xs : List X) → Each P xs → Each Q xs
each_from P Q h [] p = tt
each_from P Q h (x ∷ xs) p = (h x p.0, each_from P Q h xs p.1)

pub each_append : {X : Type 0} (P : X → Type 0) (xs ys : List X) → Each P xs → Each P ys → Each P (xs ++ ys)
each_append P [] ys p q = q
each_append P (x ∷ xs) ys p q = (p.0, each_append P xs ys p.1 q)

pub each_filter : {X : Type 0} (P : X → Type 0) (p : X → Bool) (xs : List X) → Each P xs → Each P (filter p xs)
each_filter P p [] each = tt
each_filter P p (x ∷ xs) each = by (p x) (each_filter P p xs each.1)
  where
    by : (b : Bool) → Each P (filter p xs) → Each P (cond b (x ∷ filter p xs) (filter p xs))
    by true rest = (each.0, rest)
    by false rest = rest

pub each_reverse : {X : Type 0} (P : X → Type 0) (xs : List X) → Each P xs → Each P (reverse xs)
each_reverse P [] p = tt
each_reverse P (x ∷ xs) p = subst (Each P) (sym (reverse-append (x ∷ []) xs))
    (each_append P (reverse xs) (x ∷ []) (each_reverse P xs p.1) (p.0, tt))

pub each_of_range : {X : Type 0} (P : X → Type 0) (f : ℕ → X) (a n : ℕ) → ((k : ℕ) → P (f k))
    → Each P (map f (range_with_len a n))
each_of_range P f a zero h = tt
each_of_range P f a (suc n) h = (h a, each_of_range P f (a + 1) n h)
