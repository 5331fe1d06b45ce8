-- Sums over the numbers of which something is not 0.
use Rattle.std.proofs.Common.{◌≡◌, ℕ, zero, suc, ◌+◌, ◌<◌, ◌≤◌, Bool, true, false, cond, List, [], ◌∷◌, ◌++◌, length}
use Rattle.std.proofs.Common.{get_or, inl, inr, refl, sym, ap, ◌∙◌, arith}
use Rattle.std.specs.Prelude.{◌==◌}
use Rattle.std.proofs.lemmas.Bool.Decides.{nat_tests}
use Rattle.std.proofs.lemmas.Bool.{cases_lt}
use Rattle.std.proofs.lemmas.List.{get_or_append_left, length-append}
use Rattle.std.proofs.Math.Seq.{get_or-append_seam}
use Rattle.dp_base.specs.Sums.{nat_sum}
use Rattle.dp_base.proofs.NaturalSumLaws.{nat_sum_ext}
use Rattle.dp_spec.specs.declared.span.Span.{Span}
use Rattle.dp_spec.specs.Arithmetic.{span_add}
use Rattle.dp_spec.specs.Quantities.{span_sum}
use Rattle.dp_spec.specs.Zeros.{nothing}
use Rattle.dp_laws.proofs.SpanSums.{span_add_none, span_sum_ext}
use Rattle.dp_links.specs.Links.{those_of}

-- f of the k-th of a list
abbrev pub at_item : {A : Type 0} → (ℕ → A) → List ℕ → ℕ → A
at_item f xs k = f (get_or xs k 0)

one_longer : (xs : List ℕ) (n : ℕ) → length (xs ++ n ∷ []) ≡ suc (length xs)
one_longer xs n = let all = length-append xs (n ∷ []) in omega (arith, all)

-- the numbers with one more, or without it
abbrev maybe_with : Bool → List ℕ → ℕ → List ℕ
maybe_with none xs n = cond none xs (xs ++ n ∷ [])

is_none : (f : ℕ → ℕ) (n : ℕ) → (f n == 0) ≡ true → f n ≡ 0
is_none f n e = grind (arith, nat_tests)

-- each of them is below the limit
one_below : (none : Bool) (xs : List ℕ) (n : ℕ) → ((k : ℕ) → k < length xs → get_or xs k 0 < n)
    → (k : ℕ) → k < length (maybe_with none xs n) → get_or (maybe_with none xs n) k 0 < suc n
one_below true xs n below k lt = let less = below k lt in omega (arith, less)
one_below false xs n below k lt =
    let more = one_longer xs n in
    elim (cases_lt k (length xs)) [
      | inl early ↦
          let less = below k early in
          let same = get_or_append_left xs (n ∷ []) 0 k early in
          omega (arith, less, same)
      | inr late ↦
          let last : k ≡ length xs = omega (arith, lt, more) in
          let here : get_or (xs ++ n ∷ []) k 0 ≡ n = ap (λ j. get_or (xs ++ n ∷ []) j 0) last
          ∙ get_or-append_seam xs n [] 0 in
          omega (arith, here)
    ]

pub those_below : (f : ℕ → ℕ) (n k : ℕ) → k < length (those_of f n) → get_or (those_of f n) k 0 < n
those_below f zero k lt = absurd (omega (arith, lt))
those_below f (suc n) k lt = one_below (f n == 0) (those_of f n) n (those_below f n) k lt

-- ---- sums of spans

last_added : (xs : List ℕ) (n : ℕ) (g : ℕ → Span) → span_sum (length (xs ++ n ∷ [])) (at_item g (xs ++ n ∷ []))
    ≡ span_add (span_sum (length xs) (at_item g xs)) (g n)
last_added xs n g =
    ap (λ k. span_sum k (at_item g (xs ++ n ∷ []))) (one_longer xs n)
    ∙ ap (λ w. span_add w (g (get_or (xs ++ n ∷ []) (length xs) 0)))
    (span_sum_ext (length xs) (at_item g (xs ++ n ∷ [])) (at_item g xs)
    (λ k lt. ap g (get_or_append_left xs (n ∷ []) 0 k lt)))
    ∙ ap (λ x. span_add (span_sum (length xs) (at_item g xs)) (g x)) (get_or-append_seam xs n [] 0)

one_summed : (none : Bool) (xs : List ℕ) (n : ℕ) (g : ℕ → Span) (sum : Span)
    → span_sum (length xs) (at_item g xs) ≡ sum → (none ≡ true → g n ≡ nothing)
    → span_sum (length (maybe_with none xs n)) (at_item g (maybe_with none xs n)) ≡ span_add sum (g n)
one_summed true xs n g sum e zero_there =
    e ∙ sym (span_add_none sum) ∙ ap (λ w. span_add sum w) (sym (zero_there refl))
one_summed false xs n g sum e zero_there = last_added xs n g ∙ ap (λ w. span_add w (g n)) e

-- a sum over them is one over all numbers, where the others add nothing
pub those_sum : (f : ℕ → ℕ) (g : ℕ → Span) (n : ℕ) → ((k : ℕ) → f k ≡ 0 → g k ≡ nothing)
    → span_sum (length (those_of f n)) (at_item g (those_of f n)) ≡ span_sum n g
those_sum f g zero none = refl
those_sum f g (suc n) none = one_summed (f n == 0) (those_of f n) n g (span_sum n g) (those_sum f g n none)
    (λ e. none n (is_none f n e))

-- ---- sums of sizes

last_counted : (xs : List ℕ) (n : ℕ) (g : ℕ → ℕ) → nat_sum (length (xs ++ n ∷ [])) (at_item g (xs ++ n ∷ []))
    ≡ nat_sum (length xs) (at_item g xs) + g n
last_counted xs n g =
    ap (λ k. nat_sum k (at_item g (xs ++ n ∷ []))) (one_longer xs n)
    ∙ ap (λ w. w + g (get_or (xs ++ n ∷ []) (length xs) 0))
    (nat_sum_ext (length xs) (at_item g (xs ++ n ∷ [])) (at_item g xs)
    (λ k lt. ap g (get_or_append_left xs (n ∷ []) 0 k lt)))
    ∙ ap (λ x. nat_sum (length xs) (at_item g xs) + g x) (get_or-append_seam xs n [] 0)

one_counted : (none : Bool) (xs : List ℕ) (n : ℕ) (g : ℕ → ℕ) (sum : ℕ) → nat_sum (length xs) (at_item g xs) ≤ sum
    → nat_sum (length (maybe_with none xs n)) (at_item g (maybe_with none xs n)) ≤ sum + g n
one_counted true xs n g sum le = omega (arith, le)
one_counted false xs n g sum le = let all = last_counted xs n g in omega (arith, all, le)

-- over them no more than over all
pub those_count : (f : ℕ → ℕ) (g : ℕ → ℕ) (n : ℕ)
    → nat_sum (length (those_of f n)) (at_item g (those_of f n)) ≤ nat_sum n g
those_count f g zero = omega arith
those_count f g (suc n) = one_counted (f n == 0) (those_of f n) n g (nat_sum n g) (those_count f g n)
