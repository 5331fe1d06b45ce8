-- The weights of a class at the places of the other agents: those of joint classes, and together the total of the
-- class.
use Rattle.std.proofs.Common.{◌≡◌, ℕ, suc, ◌^◌, ◌<◌, ◌≤◌, Bool, true, false, cond, eqb, pos, List, length, get_or}
use Rattle.std.proofs.Common.{sym, ap, ◌∙◌, arith}
use Rattle.std.proofs.lemmas.Bool.Decides.{nat_tests}
use Rattle.dp_spec.specs.Arithmetic.{Arithmetic, exact, point}
use Rattle.dp_spec.specs.Calls.{size}
use Rattle.dp_spec.specs.Front.{Front, class_counts, fixed_joint_action}
use Rattle.dp_spec.specs.JointHistory.{history_weight, nat_history_sum}
use Rattle.dp_spec.specs.JointNumbers.{product}
use Rattle.dp_spec.specs.Merge.{class_of_agent, class_of_others, class_total, place_weight, placed_number, without}
use Rattle.dp_spec.specs.Mode.{is_exact_mode}
use Rattle.dp_spec.specs.Model.{IsModel, Model, joint_observations}
use Rattle.dp_spec.specs.Quantities.{class_weight_in, history_weight_in}
use Rattle.dp_spec.specs.SizesOfFronts.{CanRefine}
use Rattle.dp_base.specs.Sums.{nat_sum}
use Rattle.dp_spec.specs.WellFormed.{IsFront}
use Rattle.dp_base.proofs.NaturalSumLaws.{nat_sum_at, nat_sum_cond, nat_sum_ext, nat_sum_one, nat_sum_swap}
use Rattle.dp_laws.proofs.HistorySums.{nat_history_sum_ext, nat_history_sum_le, nat_history_sum_swap}
use Rattle.dp_laws.proofs.MergedFronts.{others_in_range, placed_weight}
use Rattle.dp_laws.proofs.OrderedSpans.{classes_total, total_size}
use Rattle.dp_laws.proofs.QuantityLaws.{exact_quantities}
use Rattle.dp_laws.proofs.ExactModeSizes.{exact_can_refine}

-- ---- sums of weights

-- in exact arithmetic a joint class, by the class of one agent, has the weight of the place
pub place_weight_in : (m : Model) → IsModel m → (h : ℕ) (F : Front) → IsFront m h F → (i c x s : ℕ)
    → i < length (class_counts F.agents) → c < get_or (class_counts F.agents) i 0
    → x < product (without i (class_counts F.agents)) →
    class_weight_in (exact m.scales) m F (placed_number i (class_counts F.agents) c x) s
    ≡ point (pos (place_weight m F i c x s))
place_weight_in m is h F front i c x s i_in hc hx =
    (exact_quantities m is).class_weights F (placed_number i (class_counts F.agents) c x) s
    ∙ ap (λ (w : ℕ). point (pos w)) (placed_weight m h F front i i_in c x s hc hx)

-- a sum of which the class alone counts
picked : (n k x : ℕ) → k < n → nat_sum n (λ i. cond (eqb k i) x 0) ≡ x
picked n k x lt = nat_sum_ext n (λ i. cond (eqb k i) x 0) (λ i. cond (eqb i k) x 0) (λ i p. turned k i x)
    ∙ nat_sum_one n k (λ i. x) lt
  where
    turned : (k i x : ℕ) → cond (eqb k i) x 0 ≡ cond (eqb i k) x 0
    turned k i x = grind (arith, nat_tests)

-- the place weights of a class add up to its total
pub places_total : (m : Model) (h : ℕ) (F : Front) → IsFront m h F → (i c : ℕ)
    → i < length (class_counts F.agents) →
    nat_sum (product (without i (class_counts F.agents))) (λ x. nat_sum m.states
    (λ s. place_weight m F i c x s))
    ≡ class_total m F i c
unfolding place_weight class_total
places_total m h F front i c i_in =
    let P = product (without i (class_counts F.agents)) in
    let S = m.states in
    let O = joint_observations m in
    let v = λ (H : List ℕ) (s : ℕ). cond (eqb (class_of_agent m F i H) c)
    (history_weight m (fixed_joint_action m F) H s) 0 in
    nat_sum_swap P S (λ x s. nat_history_sum O F.stage (λ H. cond (eqb (class_of_others m F i H) x) (v H s) 0))
    ∙ nat_sum_ext S _ (λ s. nat_history_sum O F.stage (λ H. v H s))
    (λ s p. sym (nat_history_sum_swap O F.stage P (λ H x. cond (eqb (class_of_others m F i H) x) (v H s) 0))
    ∙ nat_history_sum_ext O F.stage _ _ (λ H q. picked P (class_of_others m F i H) (v H s)
    (others_in_range m h F front i i_in H q)))
    ∙ sym (nat_history_sum_swap O F.stage S v)
    ∙ nat_history_sum_ext O F.stage _ _ (λ H q. nat_sum_cond S (eqb (class_of_agent m F i H) c)
    (λ s. history_weight m (fixed_joint_action m F) H s))

-- ---- sizes

-- where a front can be refined the weights of a joint class fit
pub class_fits : (A : Arithmetic) (m : Model) (h : ℕ) (F : Front) → CanRefine A m h F → (C s : ℕ) → s < m.states
    → size (class_weight_in A m F C s) < 2 ^ 127
class_fits A m h F can C s p =
    let classes = classes_total A m F (suc C) in
    let one = nat_sum_at (suc C) (λ C. total_size m (class_weight_in A m F C)) C (omega arith) in
    let here = nat_sum_at m.states (λ s. size (class_weight_in A m F C s)) s p in
    let all = can.classify in
    omega arith

size_of_point : (w : ℕ) → size (point (pos w)) ≡ w
size_of_point w = omega arith

at_most_all : (t : Bool) (x : ℕ) → cond t x 0 ≤ x
at_most_all true x = omega arith
at_most_all false x = omega arith

-- in exact mode the total of a class fits
pub total_fits : (m : Model) → IsModel m → (h : ℕ) → 0 < h → true ≡ is_exact_mode m h → (F : Front)
    → IsFront m h F
    → F.stage < h → (i c : ℕ) → class_total m F i c < 2 ^ 127
unfolding class_total
total_fits m is h some mode F front lt i c =
    let O = joint_observations m in
    let w = history_weight m (fixed_joint_action m F) in
    let W = λ (H : List ℕ). nat_sum m.states (λ s. w H s) in
    let le = nat_history_sum_le O F.stage (λ H. cond (eqb (class_of_agent m F i H) c) (W H) 0) W
    (λ H p. at_most_all (eqb (class_of_agent m F i H) c) (W H)) in
    let sizes = nat_history_sum_ext O F.stage (λ H. nat_sum m.states
    (λ s. size (history_weight_in (exact m.scales) m (fixed_joint_action m F) H s))) W
    (λ H p. nat_sum_ext m.states _ _ (λ s q. ap size ((exact_quantities m is).history_weights
    (fixed_joint_action m F) F.stage H s p) ∙ size_of_point (w H s))) in
    let all = (exact_can_refine m is h some mode F front lt).classify in
    omega arith
