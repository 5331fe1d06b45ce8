-- Sums over the numbers below n.
use Rattle.std.proofs.Common.{◌≡◌, ◌≢◌, inl, inr, ℕ, zero, suc, ◌+◌, ◌*◌, ◌<◌, ◌≤◌, ℤ, pos, ◌+ℤ◌, ◌*ℤ◌, ◌≤ℤ◌, cond}
use Rattle.std.proofs.Common.{eqb, refl, sym, ap, ◌∙◌, arith, add-zero, add-suc}
use Rattle.std.proofs.Math.IntN.{+ℤ_idl, +ℤ_idr, +ℤ_assoc}
use Rattle.std.proofs.lemmas.Bool.Decides.{nat_tests}
use Rattle.std.proofs.lemmas.Int.{ints}
use Rattle.dp_base.proofs.Ring.{v, nat, ◌⊕◌, ◌⊗◌, by_ring, zadd_le, zmul_add, zle_of}
use Rattle.dp_base.specs.Sums.{int_sum, nat_sum}
use Rattle.std.proofs.lemmas.Bool.{cases_eq}

-- equal numbers
pub int_sum_ext : (n : ℕ) (f g : ℕ → ℤ) → ((i : ℕ) → i < n → f i ≡ g i) → int_sum n f ≡ int_sum n g
int_sum_ext zero f g h = refl
int_sum_ext (suc n) f g h =
    let here : f n ≡ g n = h n (omega arith) in
    let rest : int_sum n f ≡ int_sum n g = int_sum_ext n f g (λ i p. h i (omega arith)) in cc

-- greater numbers
pub int_sum_le : (n : ℕ) (f g : ℕ → ℤ) → ((i : ℕ) → i < n → f i ≤ℤ g i) → int_sum n f ≤ℤ int_sum n g
int_sum_le zero f g h = zle_of (pos 0) (pos 0) refl
int_sum_le (suc n) f g h = zadd_le _ _ _ _ (int_sum_le n f g (λ i p. h i (omega arith))) (h n (omega arith))

-- zeros
pub int_sum_zero : (n : ℕ) → int_sum n (λ i. pos 0) ≡ pos 0
int_sum_zero zero = refl
int_sum_zero (suc n) = omega (arith, ints, int_sum_zero n)

-- sums of two
pub int_sum_add : (n : ℕ) (f g : ℕ → ℤ) → int_sum n (λ i. f i +ℤ g i) ≡ int_sum n f +ℤ int_sum n g
int_sum_add zero f g = refl
int_sum_add (suc n) f g = omega (arith, ints, int_sum_add n f g)

-- a common factor
pub int_sum_mul : (c : ℤ) (n : ℕ) (f : ℕ → ℤ) → int_sum n (λ i. c *ℤ f i) ≡ c *ℤ int_sum n f
int_sum_mul c zero f = omega (arith, ints)
int_sum_mul c (suc n) f = rw (int_sum_mul c n f) (sym (zmul_add c (int_sum n f) (f n)))

-- a sum of sums in the other order
pub int_sum_swap : (n m : ℕ) (f : ℕ → ℕ → ℤ)
    → int_sum n (λ i. int_sum m (λ j. f i j)) ≡ int_sum m (λ j. int_sum n (λ i. f i j))
int_sum_swap zero m f = sym (int_sum_zero m)
int_sum_swap (suc n) m f = rw (int_sum_swap n m f) (sym (int_sum_add m (λ j. int_sum n (λ i. f i j)) (f n)))

-- n + k numbers
pub int_sum_plus : (n k : ℕ) (f : ℕ → ℤ) → int_sum (n + k) f ≡ int_sum n f +ℤ int_sum k (λ j. f (n + j))
int_sum_plus n zero f = rw add-zero (sym (+ℤ_idr (int_sum n f)))
int_sum_plus n (suc k) f = rw (add-suc, int_sum_plus n k f)
    (+ℤ_assoc (int_sum n f) (int_sum k (λ j. f (n + j))) (f (n + k)))

-- a product range as two ranges
pub int_sum_prod : (n m : ℕ) (f : ℕ → ℤ) → int_sum (n * m) f ≡ int_sum n (λ i. int_sum m (λ j. f (i * m + j)))
int_sum_prod zero m f = let e : zero * m ≡ 0 = omega arith in rw e
int_sum_prod (suc n) m f =
    let e : suc n * m ≡ n * m + m = omega arith in rw (e, int_sum_plus (n * m) m f, int_sum_prod n m f)

-- at the place itself
pub ite_same : (k : ℕ) (x y : ℤ) → cond (eqb k k) x y ≡ x
ite_same k x y = grind (arith, nat_tests)

-- at another place
pub ite_other : (k i : ℕ) (x y : ℤ) → k ≢ i → cond (eqb k i) x y ≡ y
ite_other k i x y h = grind (arith, nat_tests)

-- no place counts
pub int_sum_none : (n k : ℕ) (x : ℤ) → n ≤ k → int_sum n (λ i. cond (eqb k i) x (pos 0)) ≡ pos 0
int_sum_none zero k x h = refl
int_sum_none (suc n) k x h =
    let e : k ≢ n = omega arith in
    let le : n ≤ k = omega arith in
    rw (int_sum_none n k x le, ite_other k n x (pos 0) e)

-- a sum of which one place counts
pub int_sum_one : (n k : ℕ) (x : ℤ) → k < n → int_sum n (λ i. cond (eqb k i) x (pos 0)) ≡ x
int_sum_one zero k x h = absurd (omega arith)
int_sum_one (suc n) k x h =
    elim (cases_eq k n) [
      | inl e ↦ let le : n ≤ k = omega arith in rw (int_sum_none n k x le, e, ite_same n x (pos 0)) (+ℤ_idl x)
      | inr ne ↦ let lt : k < n = omega arith in rw (int_sum_one n k x lt, ite_other k n x (pos 0) ne) (+ℤ_idr x)
    ]

-- c * (sum of sums), inside
pub mul_two : (c : ℤ) (n k : ℕ) (f : ℕ → ℕ → ℤ)
    → c *ℤ int_sum n (λ i. int_sum k (λ j. f i j)) ≡ int_sum n (λ i. int_sum k (λ j. c *ℤ f i j))
mul_two c n k f = sym (int_sum_mul c n (λ i. int_sum k (λ j. f i j)))
    ∙ int_sum_ext n _ _ (λ i h. sym (int_sum_mul c k (f i)))

-- sums of two, inside
pub add_two : (n k : ℕ) (f g : ℕ → ℕ → ℤ)
    → int_sum n (λ i. int_sum k (λ j. f i j +ℤ g i j))
    ≡ int_sum n (λ i. int_sum k (λ j. f i j)) +ℤ int_sum n (λ i. int_sum k (λ j. g i j))
add_two n k f g = int_sum_ext n _ _ (λ i h. int_sum_add k (f i) (g i))
    ∙ int_sum_add n (λ i. int_sum k (f i)) (λ i. int_sum k (g i))

-- equal numbers, inside
pub ext_two : (n k : ℕ) (f g : ℕ → ℕ → ℤ) → ((i j : ℕ) → i < n → j < k → f i j ≡ g i j)
    → int_sum n (λ i. int_sum k (λ j. f i j)) ≡ int_sum n (λ i. int_sum k (λ j. g i j))
ext_two n k f g h = int_sum_ext n _ _ (λ i p. int_sum_ext k _ _ (λ j q. h i j p q))

-- greater numbers, inside
pub le_two : (n k : ℕ) (f g : ℕ → ℕ → ℤ) → ((i j : ℕ) → i < n → j < k → f i j ≤ℤ g i j)
    → int_sum n (λ i. int_sum k (λ j. f i j)) ≤ℤ int_sum n (λ i. int_sum k (λ j. g i j))
le_two n k f g h = int_sum_le n _ _ (λ i p. int_sum_le k _ _ (λ j q. h i j p q))

-- the sums of three, outermost first and last exchanged
pub rotate : (n m k : ℕ) (f : ℕ → ℕ → ℕ → ℤ)
    → int_sum n (λ s. int_sum m (λ t. int_sum k (λ o. f s t o)))
    ≡ int_sum k (λ o. int_sum m (λ t. int_sum n (λ s. f s t o)))
rotate n m k f =
    int_sum_ext n _ _ (λ s h. int_sum_swap m k (f s)) ∙ int_sum_swap n k (λ s o. int_sum m (λ t. f s t o))
    ∙ int_sum_ext k _ _ (λ o h. int_sum_swap n m (λ s t. f s t o))

-- weights against one number
pub int_sum_weigh : (n : ℕ) (f : ℕ → ℕ) (x : ℤ) → int_sum n (λ s. pos (f s) *ℤ x) ≡ pos (nat_sum n f) *ℤ x
int_sum_weigh zero f x = omega (arith, ints)
int_sum_weigh (suc n) f x = rw (int_sum_weigh n f x) (by_ring (nat (nat_sum n f) ⊗ v x ⊕ nat (f n) ⊗ v x)
    (nat (nat_sum n f + f n) ⊗ v x) (omega arith))

-- one place taken out of a sum
place_split : (a c : ℕ) (f : ℕ → ℤ) → f c ≡ cond (eqb a c) (pos 0) (f c) +ℤ cond (eqb a c) (f a) (pos 0)
place_split a c f =
    elim (cases_eq a c) [
      | inl e ↦ rw (e, ite_same c (pos 0) (f c), ite_same c (f c) (pos 0)) (sym (+ℤ_idl (f c)))
      | inr ne ↦ rw (ite_other a c (pos 0) (f c) ne, ite_other a c (f a) (pos 0) ne) (sym (+ℤ_idr (f c)))
    ]

-- a sum is what one place adds to the others
pub int_sum_out : (n a : ℕ) (f : ℕ → ℤ) → a < n → int_sum n f ≡ int_sum n (λ c. cond (eqb a c) (pos 0) (f c)) +ℤ f a
int_sum_out n a f h =
    int_sum_ext n _ _ (λ c p. place_split a c f) ∙ int_sum_add n (λ c. cond (eqb a c) (pos 0) (f c))
    (λ c. cond (eqb a c) (f a) (pos 0))
    ∙ ap (λ x. int_sum n (λ c. cond (eqb a c) (pos 0) (f c)) +ℤ x) (int_sum_one n a (f a) h)

-- two numbers aside
two_le : (r s fa fb ga gb : ℤ) → r ≡ s → (fa +ℤ fb) ≤ℤ (ga +ℤ gb) → (r +ℤ fb +ℤ fa) ≤ℤ (s +ℤ gb +ℤ ga)
two_le r s fa fb ga gb e h = omega (arith, ints)

-- two sums that differ at two places
pub int_sum_two : (n a b : ℕ) (f g : ℕ → ℤ) → a < n → b < n → a ≢ b → ((c : ℕ) → c < n → a ≢ c → b ≢ c → f c ≡ g c)
    → (f a +ℤ f b) ≤ℤ (g a +ℤ g b) → int_sum n f ≤ℤ int_sum n g
int_sum_two n a b f g p q ne same h =
    let out : (f : ℕ → ℤ) → int_sum n f ≡ int_sum n (λ c. cond (eqb b c) (pos 0) (cond (eqb a c) (pos 0) (f c)))
    +ℤ f b +ℤ f a =
    λ f. int_sum_out n a f p ∙ ap (λ x. x +ℤ f a) (int_sum_out n b _ q
    ∙ ap (λ x. int_sum n (λ c. cond (eqb b c) (pos 0) (cond (eqb a c) (pos 0) (f c))) +ℤ x)
    (ite_other a b (pos 0) (f b) ne)) in
    rw (out f, out g)
    (two_le _ _ _ _ _ _
    (int_sum_ext n _ _ (λ c u. elim (cases_eq a c) [
      | inl e ↦ rw (e, ite_same c (pos 0) (f c), ite_same c (pos 0) (g c))
      | inr na ↦ elim (cases_eq b c) [
        | inl e ↦ rw (
          e,
          ite_same c (pos 0) (cond (eqb a c) (pos 0) (f c)),
          ite_same c (pos 0) (cond (eqb a c) (pos 0) (g c)),
        )
        | inr nb ↦ rw (same c u na nb)
      ]
    ]))
    h)
