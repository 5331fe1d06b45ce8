-- How many of the open leaves have a number.
use Rattle.std.proofs.Common.{◌≡◌, ◌≢◌, ℕ, ◌+◌, ◌<◌, Bool, true, false, cond, ◌==◌, List, [], ◌∷◌, refl, ap, ◌∙◌}
use Rattle.std.proofs.Common.{arith, inl, inr, All, ◌⊎◌}
use Rattle.std.proofs.lemmas.List.Elements.{All-nil, All-cons, All-head, All-tail}
use Rattle.std.proofs.lemmas.List.Sums.{sum_by-cons}
use Rattle.std.proofs.lemmas.Bool.Decides.{nat_tests}
use Rattle.dp_spec.specs.SearchState.{OpenLeaf, held_at}

-- 1 for the open leaf of number k
abbrev is_at : ℕ → OpenLeaf → ℕ
is_at k e = cond (e.node == k) 1 0

pub held_cons : (k : ℕ) (e : OpenLeaf) (es : List OpenLeaf) → held_at k (e ∷ es) ≡ is_at k e + held_at k es
held_cons k e es = sum_by-cons (is_at k) e es

pub is_at_same : (k : ℕ) (e : OpenLeaf) → e.node ≡ k → is_at k e ≡ 1
is_at_same k e same = grind (arith, nat_tests)

pub is_at_other : (k : ℕ) (e : OpenLeaf) → e.node ≢ k → is_at k e ≡ 0
is_at_other k e other = grind (arith, nat_tests)

is_at_cases : (k : ℕ) (e : OpenLeaf) → (e.node ≡ k) ⊎ (is_at k e ≡ 0)
is_at_cases k e = by_test (e.node == k) refl
  where
    by_test : (b : Bool) → (e.node == k) ≡ b → (e.node ≡ k) ⊎ (is_at k e ≡ 0)
    by_test true t = inl (grind (arith, nat_tests))
    by_test false t = inr (ap (λ v. cond v 1 0) t)

-- where none has the number, each has another
pub held_none : (k : ℕ) (es : List OpenLeaf) → held_at k es ≡ 0 → All (λ e. e.node ≢ k) es
held_none k [] h = All-nil (λ e. e.node ≢ k)
held_none k (e ∷ es) h =
    let sum = held_cons k e es in
    let other : e.node ≢ k = λ same. let one = is_at_same k e same in absurd (omega arith) in
    All-cons (λ e. e.node ≢ k) e es other (held_none k es (omega arith))

-- where each has another number, none has it
pub none_held : (k : ℕ) (es : List OpenLeaf) → All (λ e. e.node ≢ k) es → held_at k es ≡ 0
none_held k [] h = refl
none_held k (e ∷ es) h =
    held_cons k e es
    ∙ omega (
      arith,
      is_at_other k e (All-head (λ e. e.node ≢ k) e es h),
      none_held k es (All-tail (λ e. e.node ≢ k) e es h),
    )

-- where some has the number, what holds of each holds of one with that number
pub held_some : (k : ℕ) (P : OpenLeaf → Type 0) (es : List OpenLeaf) → 0 < held_at k es → All P es
    → (e : OpenLeaf) × ((e.node ≡ k) × P e)
held_some k P [] h all = absurd (omega arith)
held_some k P (e ∷ es) h all =
    elim (is_at_cases k e) [
      | inl same ↦ (e, (same, All-head P e es all))
      | inr other ↦ let sum = held_cons k e es in held_some k P es (omega arith) (All-tail P e es all)
    ]
