-- Laws of sums over joint histories.
use Rattle.std.proofs.Common.{◌≡◌, ℕ, zero, suc, ◌+◌, ◌*◌, ◌^◌, ◌<◌, ◌≤◌, cond, eqb, ℤ, pos, ◌+ℤ◌, ◌*ℤ◌, List, []}
use Rattle.std.proofs.Common.{◌∷◌, refl, sym, ◌∙◌, arith}
use Rattle.std.proofs.Math.Nat.{pow-suc, pow-zero}
use Rattle.dp_base.proofs.Sums.{int_sum_add, int_sum_ext, int_sum_one, int_sum_swap, int_sum_weigh, int_sum_zero}
use Rattle.dp_base.proofs.NaturalSumLaws.{nat_sum_add, nat_sum_const, nat_sum_ext, nat_sum_le, nat_sum_none}
use Rattle.dp_base.proofs.NaturalSumLaws.{nat_sum_of_none, nat_sum_swap, nat_sum_times}
use Rattle.dp_spec.specs.JointHistory.{IsJointHistory, int_history_sum, nat_history_sum}
use Rattle.dp_base.specs.Sums.{int_sum, nat_sum}

-- ---- of natural numbers

-- equal numbers have equal sums
pub nat_history_sum_ext : (n t : ℕ) (f g : List ℕ → ℕ) → ((H : List ℕ) → IsJointHistory n t H → f H ≡ g H)
    → nat_history_sum n t f ≡ nat_history_sum n t g
nat_history_sum_ext n zero f g h = h [] tt
nat_history_sum_ext n (suc t) f g h = nat_history_sum_ext n t _ _
    (λ H p. nat_sum_ext n _ _ (λ o q. h (o ∷ H) (q, p)))

-- sums of two
pub nat_history_sum_add : (n t : ℕ) (f g : List ℕ → ℕ)
    → nat_history_sum n t (λ H. f H + g H) ≡ nat_history_sum n t f + nat_history_sum n t g
nat_history_sum_add n zero f g = refl
nat_history_sum_add n (suc t) f g = nat_history_sum_ext n t _ _
    (λ H p. nat_sum_add n (λ o. f (o ∷ H)) (λ o. g (o ∷ H))) ∙ nat_history_sum_add n t _ _

-- a sum of sums in the other order
pub nat_history_sum_swap : (n t k : ℕ) (f : List ℕ → ℕ → ℕ)
    → nat_history_sum n t (λ H. nat_sum k (λ c. f H c)) ≡ nat_sum k (λ c. nat_history_sum n t (λ H. f H c))
nat_history_sum_swap n zero k f = refl
nat_history_sum_swap n (suc t) k f = nat_history_sum_ext n t _ _ (λ H p. nat_sum_swap n k (λ o c. f (o ∷ H) c))
    ∙ nat_history_sum_swap n t k _

-- a common factor
pub nat_history_sum_times : (n t : ℕ) (f : List ℕ → ℕ) (c : ℕ)
    → nat_history_sum n t (λ H. f H * c) ≡ nat_history_sum n t f * c
nat_history_sum_times n zero f c = refl
nat_history_sum_times n (suc t) f c = nat_history_sum_ext n t _ _ (λ H p. nat_sum_times n (λ o. f (o ∷ H)) c)
    ∙ nat_history_sum_times n t _ c

-- one number throughout
pub nat_history_sum_const : (n t c : ℕ) → nat_history_sum n t (λ H. c) ≡ n ^ t * c
nat_history_sum_const n zero c = rw (pow-zero n) (omega arith)
nat_history_sum_const n (suc t) c = nat_history_sum_ext n t _ (λ H. n * c) (λ H p. nat_sum_const n c)
    ∙ nat_history_sum_const n t (n * c) ∙ rw (pow-suc n t) (omega arith)

-- smaller numbers have a smaller sum
pub nat_history_sum_le : (n t : ℕ) (f g : List ℕ → ℕ) → ((H : List ℕ) → IsJointHistory n t H → f H ≤ g H)
    → nat_history_sum n t f ≤ nat_history_sum n t g
nat_history_sum_le n zero f g h = h [] tt
nat_history_sum_le n (suc t) f g h = nat_history_sum_le n t _ _
    (λ H p. nat_sum_le n _ _ (λ o q. h (o ∷ H) (q, p)))

-- where a sum is 0 each number is ..
pub nat_history_sum_none : (n t : ℕ) (f : List ℕ → ℕ) → nat_history_sum n t f ≡ 0 → (H : List ℕ)
    → IsJointHistory n t H → f H ≡ 0
nat_history_sum_none n zero f e [] h = e
nat_history_sum_none n zero f e (o ∷ H) h = absurd h
nat_history_sum_none n (suc t) f e [] h = absurd h
nat_history_sum_none n (suc t) f e (o ∷ H) h = nat_sum_none n (λ o. f (o ∷ H))
    (nat_history_sum_none n t (λ H. nat_sum n (λ o. f (o ∷ H))) e H h.1) o h.0

-- .. and zeros have the sum 0
pub nat_history_sum_of_none : (n t : ℕ) (f : List ℕ → ℕ) → ((H : List ℕ) → IsJointHistory n t H → f H ≡ 0)
    → nat_history_sum n t f ≡ 0
nat_history_sum_of_none n zero f h = h [] tt
nat_history_sum_of_none n (suc t) f h = nat_history_sum_of_none n t _
    (λ H p. nat_sum_of_none n _ (λ o q. h (o ∷ H) (q, p)))

-- ---- of whole numbers

-- equal numbers
pub int_history_sum_ext : (n t : ℕ) (f g : List ℕ → ℤ) → ((H : List ℕ) → IsJointHistory n t H → f H ≡ g H)
    → int_history_sum n t f ≡ int_history_sum n t g
int_history_sum_ext n zero f g h = h [] tt
int_history_sum_ext n (suc t) f g h = int_history_sum_ext n t _ _
    (λ H p. int_sum_ext n _ _ (λ o q. h (o ∷ H) (q, p)))

-- sums of two
pub int_history_sum_add : (n t : ℕ) (f g : List ℕ → ℤ)
    → int_history_sum n t (λ H. f H +ℤ g H) ≡ int_history_sum n t f +ℤ int_history_sum n t g
int_history_sum_add n zero f g = refl
int_history_sum_add n (suc t) f g = int_history_sum_ext n t _ _
    (λ H p. int_sum_add n (λ o. f (o ∷ H)) (λ o. g (o ∷ H))) ∙ int_history_sum_add n t _ _

-- a sum of sums in the other order
pub int_history_sum_swap : (n t k : ℕ) (f : List ℕ → ℕ → ℤ)
    → int_history_sum n t (λ H. int_sum k (λ c. f H c)) ≡ int_sum k (λ c. int_history_sum n t (λ H. f H c))
int_history_sum_swap n zero k f = refl
int_history_sum_swap n (suc t) k f = int_history_sum_ext n t _ _ (λ H p. int_sum_swap n k (λ o c. f (o ∷ H) c))
    ∙ int_history_sum_swap n t k _

-- a sum of zeros
pub int_history_sum_zero : (n t : ℕ) → int_history_sum n t (λ H. pos 0) ≡ pos 0
int_history_sum_zero n zero = refl
int_history_sum_zero n (suc t) = int_history_sum_ext n t _ (λ H. pos 0) (λ H p. int_sum_zero n)
    ∙ int_history_sum_zero n t

-- weights against one number
pub int_history_sum_weigh : (n t : ℕ) (g : List ℕ → ℕ) (x : ℤ)
    → int_history_sum n t (λ H. pos (g H) *ℤ x) ≡ pos (nat_history_sum n t g) *ℤ x
int_history_sum_weigh n zero g x = refl
int_history_sum_weigh n (suc t) g x = int_history_sum_ext n t _ _ (λ H p. int_sum_weigh n (λ o. g (o ∷ H)) x)
    ∙ int_history_sum_weigh n t (λ H. nat_sum n (λ o. g (o ∷ H))) x

-- a sum over histories, by classes
pub int_history_sum_group : (n t k : ℕ) (v : List ℕ → ℤ) (c : List ℕ → ℕ)
    → ((H : List ℕ) → IsJointHistory n t H → c H < k) →
    int_history_sum n t v ≡ int_sum k (λ C. int_history_sum n t (λ H. cond (eqb (c H) C) (v H) (pos 0)))
int_history_sum_group n t k v c h = int_history_sum_ext n t _ _ (λ H p. sym (int_sum_one k (c H) (v H) (h H p)))
    ∙ int_history_sum_swap n t k (λ H C. cond (eqb (c H) C) (v H) (pos 0))
