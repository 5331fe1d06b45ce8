-- The ends of a worth, and its unit, are at most 2^126 in magnitude.
use Rattle.std.proofs.Common.{◌≡◌, ℕ, zero, suc, ◌+◌, ◌-◌, ◌*◌, ◌^◌, ◌<◌, ◌≤◌, Bool, true, false, cond, max}
use Rattle.std.proofs.Common.{unsigned_abs, List, refl, sym, ap, ◌∙◌, arith}
use Rattle.std.proofs.Math.Nat.{pow-suc, pow-zero, mul-le-mul_right, mul-le-mul_left, mul-le-mul, mul-pos}
use Rattle.std.proofs.Math.Nat.{le-mul_of_pos_right, one-le-pow}
use Rattle.dp_spec.specs.declared.span.Span.{Span}
use Rattle.dp_laws.proofs.ExactValueSizes.{value_most, worth_most}
use Rattle.dp_laws.proofs.OneStep.{trees_after_fit, root_joint_action_below}
use Rattle.dp_laws.proofs.OutwardModeSizes.{next_weights, reward_room}
use Rattle.dp_laws.proofs.OrderedSpans.{total_size}
use Rattle.dp_laws.proofs.Recursion.{recursive_worth_is_forward}
use Rattle.dp_laws.proofs.SizeLaws.{mode_can_update_weights}
use Rattle.dp_laws.proofs.SizeSums.{worth_size_le}
use Rattle.dp_base.proofs.NaturalSumLaws.{nat_sum_most}
use Rattle.dp_spec.proofs.ModeCondition.{exact_condition, reward_most, step_scale_some}
use Rattle.dp_spec.proofs.ModelLaws.{some_state, some_joint_observation}
use Rattle.dp_spec.specs.Arithmetic.{arithmetic, exact, outward}
use Rattle.dp_spec.specs.Calls.{size}
use Rattle.dp_spec.specs.Mode.{IsWithinLimits, greatest_magnitude, is_exact_mode, unit_of}
use Rattle.dp_spec.specs.Model.{IsModel, Model, joint_observations, start_at, step_scale, value_scale}
use Rattle.dp_spec.specs.PolicyTree.{IsPolicyOf, PolicyTree}
use Rattle.dp_spec.specs.Quantities.{forward_worth_in, weights_after_in}
use Rattle.dp_spec.specs.Sizes.{AreWeights}
use Rattle.dp_spec.specs.SizesOfEarnings.{worth_size}
use Rattle.dp_spec.specs.Value.{joint_root_action, trees_after}

-- ---- in exact mode

pub exact_worth_fits : (m : Model) → IsModel m → (h : ℕ) → true ≡ is_exact_mode m h
    → (ws : ℕ → Span) (qs : List PolicyTree)
    → total_size m ws ≤ m.scales.start * step_scale m ^ 0 → IsPolicyOf m h qs
    → worth_size (exact m.scales) m h ws qs ≤ 2 ^ 126
unfolding value_most
exact_worth_fits m is h mode ws qs small policy =
    let most = worth_most m is h ws qs policy in
    let one = pow-zero (step_scale m) in
    let start : total_size m ws ≤ m.scales.start = omega (arith, small, ap (λ z. m.scales.start * z) one) in
    let grown = mul-le-mul_right (h * reward_most m * step_scale m ^ h) start in
    let room = exact_condition m h mode in
    omega arith

-- ---- in outward mode

-- how many rewards a joint policy of r steps has at most, for n joint observations
abbrev reward_count : ℕ → ℕ → ℕ
reward_count n zero = 0
reward_count n (suc r) = suc r * n ^ r

-- one reward and those after each joint observation
count_more : (n r : ℕ) → 0 < n → 1 + n * reward_count n r ≤ reward_count n (suc r)
count_more n zero some = let e = pow-zero n in omega arith
count_more n (suc r) some =
    let e = ap (λ (k : ℕ). suc r * k) (pow-suc n r) in
    let one = one-le-pow (suc r) n some in
    omega arith

worth_room : (m : Model) → IsModel m → (h : ℕ) → h ≤ 24 → (t r : ℕ) (ws : ℕ → Span) (qs : List PolicyTree)
    → t + r ≡ h
    → AreWeights false m t ws → IsPolicyOf m r qs
    → worth_size (outward m.scales) m r ws qs ≤ reward_count (joint_observations m) r * 2 ^ 82
worth_room m is h horizon t zero ws qs e are p = omega arith
worth_room m is h horizon t (suc r) ws qs e are p =
    let O = joint_observations m in
    let a = joint_root_action m qs in
    let a_in = root_joint_action_below m r qs p in
    let reward = reward_room m is h horizon t r ws a (omega arith) are a_in in
    let each = nat_sum_most O (reward_count O r * 2 ^ 82)
    (λ o. worth_size (outward m.scales) m r (weights_after_in (outward m.scales) m ws a o) (trees_after m qs o))
    (λ o q. worth_room m is h horizon (suc t) r (weights_after_in (outward m.scales) m ws a o)
    (trees_after m qs o)
    (omega arith) (next_weights m is h horizon t ws a o are a_in q) (trees_after_fit m r qs o q p)) in
    let more = mul-le-mul_right (2 ^ 82) (count_more O r (some_joint_observation m is)) in
    omega arith

outward_worth_fits : (m : Model) → IsModel m → (h : ℕ) → IsWithinLimits m h
    → (ws : ℕ → Span) (qs : List PolicyTree)
    → AreWeights false m 0 ws → IsPolicyOf m h qs → worth_size (outward m.scales) m h ws qs ≤ 2 ^ 126
outward_worth_fits m is zero within ws qs are policy = let some = within.some_step in absurd (omega arith)
outward_worth_fits m is (suc r) within ws qs are policy =
    let limit = within.horizon in
    let most = worth_room m is (suc r) (omega arith) 0 (suc r) ws qs (omega arith) are policy in
    let cells = within.stage_cells in
    let last : suc r - 1 ≡ r = omega arith in
    let count = ap (λ k. m.states * joint_observations m ^ k) last in
    let states = le-mul_of_pos_right (joint_observations m ^ r) (some_state m is) in
    let histories : joint_observations m ^ r ≤ 2 ^ 22 = omega arith in
    let steps : suc r ≤ 2 ^ 5 = omega arith in
    let few = mul-le-mul_right (2 ^ 82) (mul-le-mul steps histories) in
    omega arith

-- ---- in either

ends_fit : (m : Model) → IsModel m → (h : ℕ) → IsWithinLimits m h → (e : Bool) → e ≡ is_exact_mode m h
    → (qs : List PolicyTree) → IsPolicyOf m h qs
    → worth_size (arithmetic e m.scales) m h (λ s. (arithmetic e m.scales).start (start_at m s)) qs ≤ 2 ^ 126
unfolding exact outward
ends_fit m is h within true mode qs policy =
    let limit = within.horizon in
    let started = (mode_can_update_weights m is h within.some_step (omega arith) true mode).started in
    exact_worth_fits m is h mode _ qs started.limit policy
ends_fit m is h within false mode qs policy =
    let limit = within.horizon in
    let started = (mode_can_update_weights m is h within.some_step (omega arith) false mode).started in
    outward_worth_fits m is h within _ qs started policy

-- the ends of the worth of a joint policy
pub worth_fits : (m : Model) → IsModel m → (h : ℕ) → IsWithinLimits m h → (e : Bool) → e ≡ is_exact_mode m h
    → (qs : List PolicyTree) → IsPolicyOf m h qs → (worth : Span)
    → worth ≡ forward_worth_in (arithmetic e m.scales) m h qs
    → (unsigned_abs worth.low ≤ 2 ^ 126) × (unsigned_abs worth.high ≤ 2 ^ 126)
worth_fits m is h within e mode qs policy worth ends =
    let A = arithmetic e m.scales in
    let small = worth_size_le A m h (λ s. A.start (start_at m s)) qs in
    let same = ap size (ends ∙ sym (recursive_worth_is_forward A m h qs)) in
    let fits = ends_fit m is h within e mode qs policy in
    let all : size worth ≤ 2 ^ 126 = omega (arith, same, small, fits) in
    (omega (arith, all), omega (arith, all))

-- ---- the unit

scale_some : (m : Model) → IsModel m → (h : ℕ) → 1 ≤ value_scale m h
unfolding value_scale
scale_some m is h = mul-pos is.scales.start (mul-pos is.scales.reward
    (one-le-pow h (step_scale m) (step_scale_some m is)))

scale_most : (m : Model) → IsModel m → (h : ℕ) → 0 < h → true ≡ is_exact_mode m h → value_scale m h ≤ 2 ^ 126
unfolding value_scale reward_most
scale_most m is h some mode =
    let room = exact_condition m h mode in
    let reward : m.scales.reward ≤ max (max (greatest_magnitude m.reward) m.scales.reward) 1 = omega arith in
    let more = mul-le-mul_left (m.scales.start * step_scale m ^ h * h) reward in
    let steps = le-mul_of_pos_right (m.scales.start * step_scale m ^ h * m.scales.reward) some in
    omega arith

pub unit_fits : (m : Model) → IsModel m → (h : ℕ) → 0 < h → (1 ≤ unit_of m h) × (unit_of m h ≤ 2 ^ 126)
unfolding unit_of
unit_fits m is h some = by (is_exact_mode m h) refl
  where
    by : (e : Bool) → is_exact_mode m h ≡ e → (1 ≤ cond e (value_scale m h) (10 ^ 9))
        × (cond e (value_scale m h) (10 ^ 9) ≤ 2 ^ 126)
    by true mode = (scale_some m is h, scale_most m is h some (sym mode))
    by false mode = (omega arith, omega arith)
