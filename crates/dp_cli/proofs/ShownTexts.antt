-- Numbers in a base, and texts that are appended one after the other.
use Rattle.std.proofs.Common.{◌≡◌, ℕ, zero, suc, ◌+◌, ◌-◌, ◌*◌, ◌/◌, ◌%◌, ◌^◌, ◌<◌, List, [], ◌∷◌, ◌++◌, length}
use Rattle.std.proofs.Common.{get_or, set, take, refl, sym, ap, ◌∙◌, append_assoc, subst, arith}
use Rattle.std.specs.List.{flat_map, range_with_len}
use Rattle.std.specs.Prelude.{replicate}
use Rattle.std.proofs.Math.Nat.{mul_comm, pow-suc, pow-zero}
use Rattle.std.proofs.lemmas.Nat.{div-mul-add}
use Rattle.std.proofs.lemmas.List.{append-nil, take_more_set}
use Rattle.std.proofs.lemmas.List.Concat.{flat_map-cons}
use Rattle.dp_spec.specs.JointNumbers.{parts_of, product}
use Rattle.dp_spec.proofs.JointNumberLaws.{positive_left, positive_right}

-- ---- numbers in a base

-- how many numbers of k parts there are
pub product-replicate : (k n : ℕ) → product (replicate k n) ≡ n ^ k
product-replicate zero n = sym (pow-zero n)
product-replicate (suc k) n = ap (λ x. n * x) (product-replicate k n) ∙ mul_comm n (n ^ k) ∙ sym (pow-suc n k)

pub get_or-replicate : (t n k : ℕ) → k < t → get_or (replicate t n) k 0 ≡ n
get_or-replicate zero n k lt = absurd (omega arith)
get_or-replicate (suc t) n zero lt = refl
get_or-replicate (suc t) n (suc k) lt = get_or-replicate t n k (omega arith)

-- a step of base ^ (k + 1) over the base is one of base ^ k, and neither is 0
module _ (base rest step k : ℕ) (below : rest < step) (is : step ≡ base ^ suc k) where
  factors : step ≡ base ^ k * base
  factors = is ∙ pow-suc base k

  some_base : 0 < base
  some_base = let lt : rest < base ^ k * base = omega (arith, factors, below) in
      positive_right (base ^ k) base rest lt

  pub next_step : step / base ≡ base ^ k
  next_step =
      ap (λ x. x / base) (factors ∙ omega arith) ∙ div-mul-add (base ^ k) base 0 some_base

  pub some_step : 0 < step / base
  some_step =
      let lt : rest < base ^ k * base = omega (arith, factors, below) in
      subst (λ (x : ℕ). 0 < x) (sym next_step) (positive_left (base ^ k) base rest lt)

-- one part more is written
pub part_written : (base number rest step i len : ℕ) (all parts : List ℕ) → length parts ≡ len → i < len → rest < step
    → step ≡ base ^ (len - i) → all ≡ take i parts ++ parts_of (replicate (len - i) base) rest
    → all ≡ take (i + 1) (set parts i (rest / (step / base)))
    ++ parts_of (replicate (len - (i + 1)) base) (rest % (step / base))
part_written base number rest step i len all parts long early below is so_far =
    let k = len - (i + 1) in
    let more : len - i ≡ suc (len - (i + 1)) = omega arith in
    let next : step / base ≡ base ^ (len - (i + 1)) =
    next_step base rest step (len - (i + 1)) below (is ∙ ap (λ t. base ^ t) more) in
    let step_is : product (replicate (len - (i + 1)) base) ≡ step / base =
    product-replicate (len - (i + 1)) base ∙ sym next in
    let there : i < length parts = omega arith in
    so_far ∙ ap (λ t. take i parts ++ parts_of (replicate t base) rest) more
    ∙ ap (λ d. take i parts ++ (rest / d ∷ parts_of (replicate (len - (i + 1)) base) (rest % d))) step_is
    ∙ sym (append_assoc (take i parts) (rest / (step / base) ∷ [])
    (parts_of (replicate (len - (i + 1)) base) (rest % (step / base))))
    ∙ ap (λ l. l ++ parts_of (replicate (len - (i + 1)) base) (rest % (step / base)))
    (sym (take_more_set parts i (rest / (step / base)) there))

-- ---- texts

flat_map-range_more : (f : ℕ → List ℕ) (a n : ℕ)
    → flat_map f (range_with_len a (n + 1)) ≡ flat_map f (range_with_len a n) ++ f (a + n)
flat_map-range_more f a zero =
    let here : a ≡ a + 0 = omega arith in
    flat_map-cons f a [] ∙ append-nil (f a) ∙ ap f here
flat_map-range_more f a (suc n) =
    let rest : flat_map f (range_with_len (a + 1) (n + 1)) ≡ flat_map f (range_with_len (a + 1) n) ++ f (a + 1 + n) =
    flat_map-range_more f (a + 1) n in
    let place : a + 1 + n ≡ a + suc n = omega arith in
    let length_is : suc n + 1 ≡ suc (n + 1) = omega arith in
    ap (λ k. flat_map f (range_with_len a k)) length_is
    ∙ flat_map-cons f a (range_with_len (a + 1) (n + 1))
    ∙ ap (λ l. f a ++ l) rest
    ∙ sym (append_assoc (f a) (flat_map f (range_with_len (a + 1) n)) (f (a + 1 + n)))
    ∙ ap (λ l. l ++ f (a + 1 + n)) (sym (flat_map-cons f a (range_with_len (a + 1) n)))
    ∙ ap (λ k. flat_map f (range_with_len a (suc n)) ++ f k) place

-- one text more of a range
pub one_more : (f : ℕ → List ℕ) (before here after : List ℕ) (n : ℕ)
    → here ≡ before ++ flat_map f (range_with_len 0 n) → after ≡ here ++ f n
    → after ≡ before ++ flat_map f (range_with_len 0 (n + 1))
one_more f before here after n so_far pushed =
    let at : 0 + n ≡ n = omega arith in
    pushed ∙ ap (λ l. l ++ f n) so_far ∙ append_assoc before (flat_map f (range_with_len 0 n)) (f n)
    ∙ ap (λ l. before ++ l) (ap (λ k. flat_map f (range_with_len 0 n) ++ f k) (sym at)
    ∙ sym (flat_map-range_more f 0 n))
