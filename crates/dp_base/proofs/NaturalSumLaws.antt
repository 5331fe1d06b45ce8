-- Laws of sums of natural numbers.
use Rattle.std.proofs.Common.{◌≡◌, inl, inr, ℕ, zero, suc, ◌+◌, ◌*◌, ◌<◌, ◌≤◌, Bool, true, false, cond, eqb, refl}
use Rattle.std.proofs.Common.{sym, ap, ◌∙◌, arith}
use Rattle.std.proofs.lemmas.Bool.{cases_eq}
use Rattle.std.proofs.lemmas.Bool.Decides.{nat_tests}
use Rattle.dp_base.specs.Sums.{nat_sum}

-- ---- equations

-- equal numbers have equal sums
pub nat_sum_ext : (n : ℕ) (f g : ℕ → ℕ) → ((i : ℕ) → i < n → f i ≡ g i) → nat_sum n f ≡ nat_sum n g
nat_sum_ext zero f g h = refl
nat_sum_ext (suc n) f g h =
    let here : f n ≡ g n = h n (omega arith) in
    let rest : nat_sum n f ≡ nat_sum n g = nat_sum_ext n f g (λ i p. h i (omega arith)) in cc

-- n times one number
pub nat_sum_const : (n c : ℕ) → nat_sum n (λ i. c) ≡ n * c
nat_sum_const zero c = omega arith
nat_sum_const (suc n) c = let rest = nat_sum_const n c in omega arith

pub nat_sum_zero : (n : ℕ) → nat_sum n (λ i. 0) ≡ 0
nat_sum_zero n = nat_sum_const n 0 ∙ omega arith

pub nat_sum_add : (n : ℕ) (f g : ℕ → ℕ) → nat_sum n (λ i. f i + g i) ≡ nat_sum n f + nat_sum n g
nat_sum_add zero f g = refl
nat_sum_add (suc n) f g = let e = nat_sum_add n f g in omega arith

-- a sum of sums in the other order
pub nat_sum_swap : (n k : ℕ) (f : ℕ → ℕ → ℕ)
    → nat_sum n (λ i. nat_sum k (λ j. f i j)) ≡ nat_sum k (λ j. nat_sum n (λ i. f i j))
nat_sum_swap zero k f = sym (nat_sum_zero k)
nat_sum_swap (suc n) k f = ap (λ x. x + nat_sum k (f n)) (nat_sum_swap n k f)
    ∙ sym (nat_sum_add k (λ j. nat_sum n (λ i. f i j)) (f n))

-- a common factor on the right, and one on each side
pub nat_sum_times : (n : ℕ) (f : ℕ → ℕ) (c : ℕ) → nat_sum n (λ i. f i * c) ≡ nat_sum n f * c
nat_sum_times zero f c = omega arith
nat_sum_times (suc n) f c = let e = nat_sum_times n f c in omega arith

pub nat_sum_scale : (n t g : ℕ) (f : ℕ → ℕ) → nat_sum n (λ o. t * f o * g) ≡ t * nat_sum n f * g
nat_sum_scale zero t g f = omega arith
nat_sum_scale (suc n) t g f = rw (nat_sum_scale n t g f) (omega arith)

-- a test that does not depend on the place
pub nat_sum_cond : (n : ℕ) (t : Bool) (f : ℕ → ℕ) → nat_sum n (λ i. cond t (f i) 0) ≡ cond t (nat_sum n f) 0
nat_sum_cond n true f = refl
nat_sum_cond n false f = nat_sum_zero n

-- zeros have the sum 0
pub nat_sum_of_none : (n : ℕ) (f : ℕ → ℕ) → ((i : ℕ) → i < n → f i ≡ 0) → nat_sum n f ≡ 0
nat_sum_of_none n f h = nat_sum_ext n f (λ i. 0) h ∙ nat_sum_zero n

-- a sum of which one place counts
pub nat_sum_one : (n k : ℕ) (f : ℕ → ℕ) → k < n → nat_sum n (λ i. cond (eqb i k) (f i) 0) ≡ f k
nat_sum_one zero k f h = absurd (omega arith)
nat_sum_one (suc n) k f h =
    elim (cases_eq k n) [
      | inl e ↦
          let before = nat_sum_of_none n (λ i. cond (eqb i k) (f i) 0) (λ i p. other i (omega arith)) in
          let here : cond (eqb n k) (f n) 0 ≡ f n = same e in
          let there : f k ≡ f n = ap f e in omega arith
      | inr ne ↦
          let rest = nat_sum_one n k f (omega arith) in
          let here : cond (eqb n k) (f n) 0 ≡ 0 = other n (λ e. ne (sym e)) in omega arith
    ]
  where
    same : k ≡ n → cond (eqb n k) (f n) 0 ≡ f n
    same e = grind (arith, nat_tests)

    other : (i : ℕ) → (i ≡ k → ⊥) → cond (eqb i k) (f i) 0 ≡ 0
    other i ne = grind (arith, nat_tests)

-- ---- orders

-- smaller numbers have a smaller sum
pub nat_sum_le : (n : ℕ) (f g : ℕ → ℕ) → ((i : ℕ) → i < n → f i ≤ g i) → nat_sum n f ≤ nat_sum n g
nat_sum_le zero f g h = omega arith
nat_sum_le (suc n) f g h = let here = h n (omega arith) in let rest = nat_sum_le n f g (λ i p. h i (omega arith)) in
    omega arith

-- n numbers of at most c
pub nat_sum_most : (n c : ℕ) (f : ℕ → ℕ) → ((i : ℕ) → i < n → f i ≤ c) → nat_sum n f ≤ n * c
nat_sum_most n c f h = let most = nat_sum_le n f (λ i. c) h in let all = nat_sum_const n c in omega arith

-- the first numbers of a sum
pub nat_sum_part : (k n : ℕ) (f : ℕ → ℕ) → k ≤ n → nat_sum k f ≤ nat_sum n f
nat_sum_part k zero f h = let e : k ≡ 0 = omega arith in rw e (omega arith)
nat_sum_part k (suc n) f h =
    elim (cases_eq k (suc n)) [
      | inl e ↦ rw e (omega arith)
      | inr ne ↦ let rest = nat_sum_part k n f (omega arith) in omega arith
    ]

-- one number of a sum
pub nat_sum_at : (n : ℕ) (f : ℕ → ℕ) (i : ℕ) → i < n → f i ≤ nat_sum n f
nat_sum_at n f i h = let more : nat_sum (suc i) f ≤ nat_sum n f = nat_sum_part (suc i) n f (omega arith) in
    omega arith

-- what has a sum above 0 has a number
pub some_of_sum : (n : ℕ) (f : ℕ → ℕ) → 0 < nat_sum n f → 0 < n
some_of_sum zero f h = h
some_of_sum (suc n) f h = omega arith

-- where a sum is 0 each number is
pub nat_sum_none : (n : ℕ) (f : ℕ → ℕ) → nat_sum n f ≡ 0 → (i : ℕ) → i < n → f i ≡ 0
nat_sum_none n f e i h = let one = nat_sum_at n f i h in omega arith

-- a sum of more numbers
pub nat_sum_plus : (n k : ℕ) (f : ℕ → ℕ) → nat_sum (n + k) f ≡ nat_sum n f + nat_sum k (λ j. f (n + j))
nat_sum_plus n zero f = let e : n + zero ≡ n = omega arith in rw e (omega arith)
nat_sum_plus n (suc k) f =
    let e : n + suc k ≡ suc (n + k) = omega arith in let rest = nat_sum_plus n k f in rw e (omega arith)

-- a sum over the numbers below a product, row by row
pub nat_sum_prod : (n k : ℕ) (f : ℕ → ℕ) → nat_sum (n * k) f ≡ nat_sum n (λ i. nat_sum k (λ j. f (i * k + j)))
nat_sum_prod zero k f = let e : zero * k ≡ 0 = omega arith in rw e refl
nat_sum_prod (suc n) k f =
    let e : suc n * k ≡ n * k + k = omega arith in rw (e, nat_sum_plus (n * k) k f, nat_sum_prod n k f) refl
