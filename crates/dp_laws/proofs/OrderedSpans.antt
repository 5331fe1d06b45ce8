-- Spans of weights: from 0 and in order.
use Rattle.std.proofs.Common.{◌≡◌, ℕ, zero, suc, ◌<◌, ◌≤◌, inl, inr, ℤ, pos, negsuc, ◌+ℤ◌, ◌*ℤ◌, ◌≤ℤ◌, cond, Bool}
use Rattle.std.proofs.Common.{true, false, eqb, List, [], ◌∷◌, refl, ◌∙◌, arith}
use Rattle.std.proofs.lemmas.Int.{ints}
use Rattle.std.proofs.lemmas.Bool.Decides.{nat_tests}
use Rattle.dp_spec.specs.declared.span.Span.{Span}
use Rattle.dp_base.proofs.Order.{mul_le_right}
use Rattle.dp_base.proofs.Ring.{zadd_le, zle_of, zle_trans}
use Rattle.dp_laws.proofs.SizeSums.{span_history_sum_size}
use Rattle.dp_spec.specs.Arithmetic.{Arithmetic, point}
use Rattle.dp_spec.specs.Calls.{IsPoint, size}
use Rattle.dp_spec.specs.Front.{Front, fixed_joint_action, joint_class}
use Rattle.dp_spec.specs.JointHistory.{IsJointHistory, nat_history_sum}
use Rattle.dp_spec.specs.Model.{Model, joint_observations}
use Rattle.dp_spec.specs.Quantities.{class_weight_in, history_weight_in, span_history_sum, span_sum}
use Rattle.dp_spec.specs.Sizes.{AreWeights}
use Rattle.dp_base.specs.Sums.{nat_sum}
use Rattle.dp_base.proofs.NaturalSumLaws.{nat_sum_cond, nat_sum_ext, nat_sum_le}
use Rattle.std.proofs.lemmas.Bool.{cases_eq}
use Rattle.dp_laws.proofs.HistorySums.{nat_history_sum_ext, nat_history_sum_le, nat_history_sum_swap}

-- from 0, and in order
pub record IsOrdered (w : Span) : Type 0 where
  pub from : pos 0 ≤ℤ w.low
  pub order : w.low ≤ℤ w.high

-- what spans over the states sum to at most
abbrev pub total_size : Model → (ℕ → Span) → ℕ
total_size m ws = nat_sum m.states (λ s. size (ws s))

-- weights are such spans
pub weight_ordered : {e : Bool} {m : Model} {t : ℕ} {ws : ℕ → Span} → AreWeights e m t ws → (s : ℕ)
    → s < m.states
    → IsOrdered (ws s)
weight_ordered are s p = record { from = are.from s p; order = are.order s p }

-- the high end is from 0 too
pub from_high : (w : Span) → IsOrdered w → pos 0 ≤ℤ w.high
from_high w o = zle_trans _ _ _ o.from o.order

-- the magnitude of such a span is its high end
pub high_is_size : (w : Span) → IsOrdered w → w.high ≡ pos (size w)
high_is_size w o = let low = o.from in let order = o.order in omega (arith, ints)

-- the span of 0 alone
pub none_ordered : IsOrdered (point (pos 0))
none_ordered = record { from = zle_of _ _ refl; order = zle_of _ _ refl }

-- a sum of two numbers from 0
from_both : (x y : ℤ) → pos 0 ≤ℤ x → pos 0 ≤ℤ y → pos 0 ≤ℤ (x +ℤ y)
from_both x y p q = omega (arith, ints)

-- sums of such spans
pub sum_ordered : (n : ℕ) (f : ℕ → Span) → ((i : ℕ) → i < n → IsOrdered (f i)) → IsOrdered (span_sum n f)
sum_ordered zero f h = none_ordered
sum_ordered (suc n) f h =
    let here = h n (omega arith) in
    let rest = sum_ordered n f (λ i p. h i (omega arith)) in
    record { from = from_both _ _ rest.from here.from; order = zadd_le _ _ _ _ rest.order here.order }

-- the same over joint histories
pub history_sum_ordered : (n t : ℕ) (v : List ℕ → Span) → ((H : List ℕ) → IsJointHistory n t H
    → IsOrdered (v H))
    → IsOrdered (span_history_sum n t v)
history_sum_ordered n zero v h = h [] tt
history_sum_ordered n (suc t) v h = history_sum_ordered n t _ (λ H p. sum_ordered n _ (λ o q. h (o ∷ H) (q, p)))

-- sums of single numbers
pub sum_point : (n : ℕ) (f : ℕ → Span) → ((i : ℕ) → i < n → IsPoint (f i)) → IsPoint (span_sum n f)
sum_point zero f h = refl
sum_point (suc n) f h = let here = h n (omega arith) in let rest = sum_point n f (λ i p. h i (omega arith)) in
    rw (here, rest) refl

-- the same over joint histories
pub history_sum_point : (n t : ℕ) (v : List ℕ → Span) → ((H : List ℕ) → IsJointHistory n t H → IsPoint (v H))
    → IsPoint (span_history_sum n t v)
history_sum_point n zero v h = h [] tt
history_sum_point n (suc t) v h = history_sum_point n t _ (λ H p. sum_point n _ (λ o q. h (o ∷ H) (q, p)))

-- times a natural
from_times : (x : ℤ) (n : ℕ) → pos 0 ≤ℤ x → pos 0 ≤ℤ (x *ℤ pos n)
from_times (pos k) n h = omega (arith, ints)
from_times (negsuc k) n h = absurd (omega (arith, ints))

-- such a span times a natural
pub times_ordered : (w : Span) (n : ℕ) → IsOrdered w
    → IsOrdered (record { low = w.low *ℤ pos n; high = w.high *ℤ pos n })
times_ordered w n o = record { from = from_times w.low n o.from; order = mul_le_right n w.low w.high o.order }

-- ---- joint classes
-- where a test holds, and else 0
pub where_ordered : (b : Bool) (w : Span) → IsOrdered w → IsOrdered (cond b w (point (pos 0)))
where_ordered true w o = o
where_ordered false w o = none_ordered

-- one number where a test holds, and else 0
pub where_point : (b : Bool) (w : Span) → IsPoint w → IsPoint (cond b w (point (pos 0)))
where_point true w e = e
where_point false w e = refl

-- its magnitude
pub where_size : (b : Bool) (w : Span) → size (cond b w (point (pos 0))) ≡ cond b (size w) 0
where_size true w = refl
where_size false w = refl

-- the weights of a joint class sum to no more than those of its joint histories
pub class_total : (A : Arithmetic) (m : Model) (F : Front) (C : ℕ) →
    total_size m (class_weight_in A m F C) ≤ nat_history_sum (joint_observations m) F.stage
    (λ H. cond (eqb (joint_class m F H) C) (total_size m (history_weight_in A m (fixed_joint_action m F) H)) 0)
unfolding class_weight_in
class_total A m F C =
    let O = joint_observations m in
    let S = m.states in
    let test = λ (H : List ℕ). eqb (joint_class m F H) C in
    let W = λ (H : List ℕ) (s : ℕ). history_weight_in A m (fixed_joint_action m F) H s in
    let each = nat_sum_le S (λ s. size (span_history_sum O F.stage
    (λ H. cond (test H) (W H s) (point (pos 0)))))
    (λ s. nat_history_sum O F.stage (λ H. size (cond (test H) (W H s) (point (pos 0)))))
    (λ s p. span_history_sum_size O F.stage (λ H. cond (test H) (W H s) (point (pos 0)))) in
    let swapped = nat_history_sum_swap O F.stage S (λ H s. size (cond (test H) (W H s) (point (pos 0)))) in
    let inner = nat_history_sum_ext O F.stage (λ H. nat_sum S
    (λ s. size (cond (test H) (W H s) (point (pos 0)))))
    (λ H. cond (test H) (nat_sum S (λ s. size (W H s))) 0)
    (λ H p. nat_sum_ext S _ (λ s. cond (test H) (size (W H s)) 0) (λ s q. where_size (test H) (W H s))
    ∙ nat_sum_cond S (test H) (λ s. size (W H s))) in
    omega arith

-- a number counts at no other place
elsewhere : (k n x : ℕ) → (k ≡ n → ⊥) → cond (eqb k n) x 0 ≡ 0
elsewhere k n x ne = grind (arith, nat_tests)

-- a place past the end counts nowhere
none_before : (n k x : ℕ) → n ≤ k → nat_sum n (λ i. cond (eqb k i) x 0) ≡ 0
none_before zero k x h = refl
none_before (suc n) k x h = let rest = none_before n k x (omega arith) in
    let here : cond (eqb k n) x 0 ≡ 0 = elsewhere k n x (omega arith) in omega arith

-- a number counts at one place at most
pub one_place : (n k x : ℕ) → nat_sum n (λ i. cond (eqb k i) x 0) ≤ x
one_place zero k x = omega arith
one_place (suc n) k x =
    elim (cases_eq k n) [
      | inl e ↦ let rest = none_before n k x (omega arith) in let here = at_most (eqb k n) x in omega arith
      | inr ne ↦ let rest = one_place n k x in let here : cond (eqb k n) x 0 ≡ 0 = elsewhere k n x ne in
          omega arith
    ]
  where
    at_most : (b : Bool) (x : ℕ) → cond b x 0 ≤ x
    at_most true x = omega arith
    at_most false x = omega arith

-- all joint classes together sum to no more than all joint histories of the stage
pub classes_total : (A : Arithmetic) (m : Model) (F : Front) (n : ℕ) →
    nat_sum n (λ C. total_size m (class_weight_in A m F C)) ≤ nat_history_sum (joint_observations m) F.stage
    (λ H. total_size m (history_weight_in A m (fixed_joint_action m F) H))
classes_total A m F n =
    let O = joint_observations m in
    let V = λ (H : List ℕ). total_size m (history_weight_in A m (fixed_joint_action m F) H) in
    let each = nat_sum_le n (λ C. total_size m (class_weight_in A m F C))
    (λ C. nat_history_sum O F.stage (λ H. cond (eqb (joint_class m F H) C) (V H) 0))
    (λ C p. class_total A m F C) in
    let swapped = nat_history_sum_swap O F.stage n (λ H C. cond (eqb (joint_class m F H) C) (V H) 0) in
    let inner = nat_history_sum_le O F.stage (λ H. nat_sum n (λ C. cond (eqb (joint_class m F H) C) (V H) 0)) V
    (λ H p. one_place n (joint_class m F H) (V H)) in
    omega arith
