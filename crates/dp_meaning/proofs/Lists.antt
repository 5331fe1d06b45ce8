-- Sums, first places and last elements of lists.
use Rattle.std.proofs.Common.{◌≡◌, ◌⊎◌, inl, inr, ℕ, zero, suc, ◌+◌, ◌<◌, ◌≤◌, Bool, true, false, cond, List, [], ◌∷◌}
use Rattle.std.proofs.Common.{◌++◌, length, get_or, take, refl, sym, ap, ◌∙◌, arith}
use Rattle.std.specs.Prelude.{◌||◌, ◌==◌, max, sum, reverse, Option, Some, None, All}
use Rattle.std.specs.List.{fold, find, list_any, position_or_len}
use Rattle.std.specs.Option.{option_or}
use Rattle.std.proofs.lemmas.List.{reverse-append, take_all}
use Rattle.std.proofs.lemmas.List.Folds.{find-append}
use Rattle.std.proofs.lemmas.List.Sums.{sum_by_more, fails_before_first}
use Rattle.dp_base.specs.Sums.{nat_sum}
use Rattle.dp_meaning.proofs.Each.{Each, all_from_each}
use Rattle.std.proofs.lemmas.Bool.{cases_lt, eq-eqb}

-- ---- sums over the numbers below n

sum_of_front : (xs : List ℕ) (n : ℕ) → n ≤ length xs → nat_sum n (λ i. get_or xs i 0) ≡ sum (take n xs)
sum_of_front xs zero h = refl
sum_of_front xs (suc n) h =
    let rest = sum_of_front xs n (omega arith) in
    let more = sum_by_more (λ x. x) xs n 0 (omega arith) in
    let one : n + 1 ≡ suc n = omega arith in
    let there = ap (λ k. sum (take k xs)) one in omega arith

-- the sum of a list is the sum over its places
pub sum_of_places : (xs : List ℕ) (n : ℕ) → length xs ≡ n → nat_sum n (λ i. get_or xs i 0) ≡ sum xs
sum_of_places xs n e = sum_of_front xs n (omega arith) ∙ ap (λ k. sum (take k xs)) (sym e)
    ∙ ap sum (take_all (length xs) xs (omega arith))

-- ---- the greatest

pub most_above : {X : Type 0} (f : X → ℕ) (acc : ℕ) (xs : List X) → acc ≤ fold (λ m x. max m (f x)) acc xs
most_above f acc [] = omega arith
most_above f acc (x ∷ xs) = let h = most_above f (max acc (f x)) xs in omega arith

pub each_below_most : {X : Type 0} (f : X → ℕ) (acc : ℕ) (xs : List X)
    → Each (λ x. f x ≤ fold (λ m y. max m (f y)) acc xs) xs
each_below_most f acc [] = tt
each_below_most f acc (x ∷ xs) = (
  (let h = most_above f (max acc (f x)) xs in omega arith),
  each_below_most f (max acc (f x)) xs,
)

pub most_below : {X : Type 0} (f : X → ℕ) (n acc : ℕ) (xs : List X) → acc ≤ n → Each (λ x. f x ≤ n) xs
    → fold (λ m x. max m (f x)) acc xs ≤ n
most_below f n acc [] h each = h
most_below f n acc (x ∷ xs) h each = most_below f n (max acc (f x)) xs (let k = each.0 in omega arith) each.1

pub below_greatest : (xs : List ℕ) → All (λ x. x ≤ fold max 0 xs) xs
below_greatest xs = all_from_each (λ x. x ≤ fold max 0 xs) xs (each_below_most (λ x. x) 0 xs)

-- one is the greatest, or the greatest is what they are compared with
greatest_at : (acc : ℕ) (xs : List ℕ)
    → (fold max acc xs ≡ acc) ⊎ ((k : ℕ) × (k < length xs) × (get_or xs k 0 ≡ fold max acc xs))
greatest_at acc [] = inl refl
greatest_at acc (x ∷ xs) = elim (greatest_at (max acc x) xs) [
  | inl e ↦ elim (cases_lt acc x) [
    | inl h ↦ inr (0, omega arith, (let m : x ≡ max acc x = omega arith in m ∙ sym e))
    | inr h ↦ inl (let m : max acc x ≡ acc = omega arith in e ∙ m)
  ]
  | inr w ↦ inr (suc w.0, (let h = w.1 in omega arith), w.2)
]

-- the first that passes stands no later than one that passes
first_no_later : {X : Type 0} (p : X → Bool) (xs : List X) (k : ℕ) (d : X) → p (get_or xs k d) ≡ true
    → position_or_len p xs ≤ k
first_no_later p xs k d e =
    let not_before : k < position_or_len p xs → ⊥ = λ h. clash (fails_before_first p xs k d h) in
    omega (arith, not_before)
  where
    clash : p (get_or xs k d) ≡ false → ⊥
    clash f = cc

pub first_greatest : (xs : List ℕ) → 0 < length xs → position_or_len (λ n. n == fold max 0 xs) xs < length xs
first_greatest [] h = absurd (omega arith)
first_greatest (x ∷ xs) h = elim (greatest_at 0 (x ∷ xs)) [
  | inl e ↦
      let here = below_greatest (x ∷ xs) 0 0 h in
      let same : x ≡ fold max 0 (x ∷ xs) = omega arith in
      let first = first_no_later (λ n. n == fold max 0 (x ∷ xs)) (x ∷ xs) 0 0 (eq-eqb x _ same) in omega arith
  | inr w ↦
      let first = first_no_later (λ n. n == fold max 0 (x ∷ xs)) (x ∷ xs) w.0 0 (eq-eqb _ _ w.2) in
      let within = w.1 in omega arith
]

-- ---- the last that passes

pub last_none : {X : Type 0} (p : X → Bool) (xs : List X) → list_any p xs ≡ false → find p (reverse xs) ≡ None
last_none p [] h = refl
last_none p (x ∷ xs) h =
    ap (find p) (reverse-append (x ∷ []) xs) ∙ find-append p (reverse xs) (x ∷ [])
    ∙ ap (λ o. option_or o (find p (x ∷ []))) (last_none p xs (rest (p x) refl h))
    ∙ ap (λ b. cond b (Some x) None) (here (p x) refl h)
  where
    rest : (b : Bool) → p x ≡ b → (b || list_any p xs) ≡ false → list_any p xs ≡ false
    rest true e f = absurd (cc)
    rest false e f = f

    here : (b : Bool) → p x ≡ b → (b || list_any p xs) ≡ false → p x ≡ false
    here true e f = absurd (cc)
    here false e f = e

pub last_is : {X : Type 0} (p : X → Bool) (before : List X) (x : X) (after : List X) → p x ≡ true
    → list_any p after ≡ false
    → find p (reverse (before ++ x ∷ after)) ≡ Some x
last_is p before x after h none =
    ap (find p) (reverse-append before (x ∷ after)) ∙ find-append p (reverse (x ∷ after)) (reverse before)
    ∙ ap (λ o. option_or o (find p (reverse before))) from_after
  where
    from_after : find p (reverse (x ∷ after)) ≡ Some x
    from_after =
        ap (find p) (reverse-append (x ∷ []) after) ∙ find-append p (reverse after) (x ∷ [])
        ∙ ap (λ o. option_or o (find p (x ∷ []))) (last_none p after none) ∙ ap (λ b. cond b (Some x) None) h

or_none : {X : Type 0} (o : Option X) → option_or o None ≡ o
or_none None = refl
or_none (Some y) = refl

pub last_other : {X : Type 0} (p : X → Bool) (before : List X) (x : X) (after : List X) → p x ≡ false
    → find p (reverse (before ++ x ∷ after)) ≡ find p (reverse (before ++ after))
last_other p before x after h =
    ap (find p) (reverse-append before (x ∷ after)) ∙ find-append p (reverse (x ∷ after)) (reverse before)
    ∙ ap (λ o. option_or o (find p (reverse before))) without
    ∙ sym (ap (find p) (reverse-append before after) ∙ find-append p (reverse after) (reverse before))
  where
    without : find p (reverse (x ∷ after)) ≡ find p (reverse after)
    without =
        ap (find p) (reverse-append (x ∷ []) after) ∙ find-append p (reverse after) (x ∷ [])
        ∙ ap (λ b. option_or (find p (reverse after)) (cond b (Some x) None)) h ∙ or_none (find p (reverse after))
