-- What holds of all that stands for the numbers of a range.
use Rattle.std.proofs.Common.{◌≡◌, ℕ, zero, suc, ◌+◌, ◌<◌, ◌≤◌, Bool, true, List, [], ◌∷◌, ◌++◌, map, sym, ◌∙◌, arith}
use Rattle.std.proofs.Common.{subst, inl, inr}
use Rattle.std.specs.Prelude.{All}
use Rattle.std.specs.List.{flat_map, list_all, range_with_len}
use Rattle.std.proofs.lemmas.Bool.{and_parts, cases_lt}
use Rattle.std.proofs.lemmas.List.Folds.{list_all-append}
use Rattle.dp_meaning.proofs.Each.{Each, each_append}

-- each of them has what each number gives it
pub each_range : {X : Type 0} (P : X → Type 0) (f : ℕ → X) (a n : ℕ) → ((k : ℕ) → k < a + n → P (f k))
    → Each P (map f (range_with_len a n))
each_range P f a zero each = tt
each_range P f a (suc n) each =
    (each a (omega arith), each_range P f (a + 1) n (λ k below. each k (omega (arith, below))))

-- and so has each of all lists
pub each_lists : {X : Type 0} (P : X → Type 0) (f : ℕ → List X) (a n : ℕ) → ((k : ℕ) → k < a + n → Each P (f k))
    → Each P (flat_map f (range_with_len a n))
each_lists P f a zero each = tt
each_lists P f a (suc n) each =
    each_append P (f a) (flat_map f (range_with_len (a + 1) n)) (each a (omega arith))
    (each_lists P f (a + 1) n (λ k below. each k (omega (arith, below))))

-- a list that has what all have
pub each_all : {X : Type 0} (P : X → Type 0) (xs : List X) → All P xs → Each P xs
each_all P [] all = tt
each_all P (x ∷ xs) all = (all 0 x (omega arith), each_all P xs (λ i d below. all (suc i) d (omega (arith, below))))

-- a test that all pass is passed by each
pub range_passes : {X : Type 0} (p : X → Bool) (f : ℕ → X) (a n k : ℕ) → a ≤ k → k < a + n
    → list_all p (map f (range_with_len a n)) ≡ true → p (f k) ≡ true
range_passes p f a zero k from below all = absurd (omega (arith, from, below))
range_passes p f a (suc n) k from below all =
    let parts = and_parts (p (f a)) (list_all p (map f (range_with_len (a + 1) n))) all in
    elim (cases_lt a k) [
      | inl later ↦ range_passes p f (a + 1) n k (omega (arith, later)) (omega (arith, below)) parts.1
      | inr here ↦ (let same : a ≡ k = omega (arith, here, from) in subst (λ i. p (f i) ≡ true) same parts.0)
    ]

-- the same of lists
pub lists_pass : {X : Type 0} (p : X → Bool) (f : ℕ → List X) (a n k : ℕ) → a ≤ k → k < a + n
    → list_all p (flat_map f (range_with_len a n)) ≡ true → list_all p (f k) ≡ true
lists_pass p f a zero k from below all = absurd (omega (arith, from, below))
lists_pass p f a (suc n) k from below all =
    let others = flat_map f (range_with_len (a + 1) n) in
    let parts = and_parts (list_all p (f a)) (list_all p others) (sym (list_all-append p (f a) others) ∙ all) in
    elim (cases_lt a k) [
      | inl later ↦ lists_pass p f (a + 1) n k (omega (arith, later)) (omega (arith, below)) parts.1
      | inr here ↦ (
          let same : a ≡ k = omega (arith, here, from) in subst (λ i. list_all p (f i) ≡ true) same parts.0
          )
    ]

-- a relation of lists that holds of none, and of lists behind lists
pub record IsJoined {X Y : Type 0} (R : List X → List Y → Type 0) : Type 0 where
  pub none : R [] []
  pub joined : (xs more : List X) (ys others : List Y) → R xs ys → R more others → R (xs ++ more) (ys ++ others)

-- what holds of two lists side by side
abbrev pub Alongside : {X Y : Type 0} → (X → Y → Type 0) → List X → List Y → Type 0
Alongside R [] [] = Unit {0}
Alongside R [] (y ∷ ys) = ⊥
Alongside R (x ∷ xs) [] = ⊥
Alongside R (x ∷ xs) (y ∷ ys) = R x y × Alongside R xs ys

alongside_append : {X Y : Type 0} (R : X → Y → Type 0) (xs more : List X) (ys others : List Y) → Alongside R xs ys
    → Alongside R more others → Alongside R (xs ++ more) (ys ++ others)
alongside_append R [] more [] others a b = b
alongside_append R [] more (y ∷ ys) others a b = absurd a
alongside_append R (x ∷ xs) more [] others a b = absurd a
alongside_append R (x ∷ xs) more (y ∷ ys) others a b = (a.0, alongside_append R xs more ys others a.1 b)

pub alongside_joined : {X Y : Type 0} (R : X → Y → Type 0) → IsJoined (Alongside R)
alongside_joined R = record { none = tt; joined = alongside_append R }

-- it holds of all lists where it holds of each
pub over_range : {X Y : Type 0} (R : List X → List Y → Type 0) (join : IsJoined R) (f : ℕ → List X) (g : ℕ → List Y)
    (a n : ℕ) → ((k : ℕ) → k < a + n → R (f k) (g k))
    → R (flat_map f (range_with_len a n)) (flat_map g (range_with_len a n))
over_range R join f g a zero each = join.none
over_range R join f g a (suc n) each =
    join.joined (f a) (flat_map f (range_with_len (a + 1) n)) (g a) (flat_map g (range_with_len (a + 1) n))
    (each a (omega arith)) (over_range R join f g (a + 1) n (λ k below. each k (omega (arith, below))))
