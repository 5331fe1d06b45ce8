-- In either mode the worth of a shared policy can be computed, up to a horizon of 24.
use Rattle.std.proofs.Common.{◌≡◌, ℕ, zero, suc, ◌+◌, ◌-◌, ◌*◌, ◌^◌, ◌<◌, ◌≤◌, Bool, true, false, ap, sym, ◌∙◌, arith}
use Rattle.std.proofs.Math.Nat.{le-mul_of_pos_right, mul-le-mul, mul-le-mul_right, mul_assoc, mul_comm}
use Rattle.std.proofs.lemmas.Nat.{pow-add}
use Rattle.dp_laws.proofs.ExactHistorySizes.{start_total as exact_start_total}
use Rattle.dp_laws.proofs.ExactWeightUpdates.{exact_can_update_weights, power_grows, weight_room, whole_room}
use Rattle.dp_laws.proofs.ExactSizes.{updated_total, reward_total}
use Rattle.dp_spec.proofs.ModeCondition.{reward_most}
use Rattle.dp_laws.proofs.OrderedSpans.{total_size, weight_ordered}
use Rattle.dp_laws.proofs.OutwardModeSizes.{outward_can_update_weights, reward_room, state_squares}
use Rattle.dp_laws.proofs.OutwardSizes.{spread_total, start_total as outward_start_total}
use Rattle.dp_laws.proofs.RowSizes.{next_rows_are_weights, next_rows_total, row_acts, rows_total}
use Rattle.dp_spec.proofs.QuantityScales.{scale_of_first, scale_of_next}
use Rattle.dp_laws.proofs.SharedTrees.{one_joint_row}
use Rattle.dp_spec.specs.Arithmetic.{arithmetic, exact, outward}
use Rattle.dp_spec.specs.Calls.{exact_calls, outward_calls}
use Rattle.dp_spec.specs.Mode.{is_exact_mode}
use Rattle.dp_spec.specs.Model.{IsModel, Model, joint_observations, start_at, step_scale}
use Rattle.dp_spec.specs.Quantities.{weights_after_in}
use Rattle.dp_spec.specs.SharedPolicy.{IsSharedOf, SharedPolicy}
use Rattle.dp_spec.specs.SharedWorth.{joint_row_action, joint_row_count, row_weight_in}
use Rattle.dp_spec.specs.Sizes.{AreWeights, reward_size}
use Rattle.dp_spec.specs.SizesOfRows.{CanShare, rows_earn_size, rows_update_size}
use Rattle.dp_base.specs.Sums.{nat_sum}
use Rattle.dp_spec.proofs.ModelLaws.{some_state}
use Rattle.dp_base.proofs.NaturalSumLaws.{nat_sum_add, nat_sum_const, nat_sum_le, nat_sum_most, nat_sum_times}

-- ---- exact mode

-- a reward of the weights of a time, counted in the whole value
regroup : (d p x q k : ℕ) → p * q ≡ k → d * p * (x * q) ≡ d * k * x
regroup d p x q k e = omega (arith, ap (λ (n : ℕ). d * n * x) e)

module _ (m : Model) (is : IsModel m) (h : ℕ) (some : 0 < h) (mode : true ≡ is_exact_mode m h)
    (p : SharedPolicy)
    (shared : IsSharedOf m h p) where
  -- all next weights of a stage
  exact_update : (t : ℕ) → rows_update_size (exact m.scales) m p t
      ≤ rows_total (exact m.scales) m p t * step_scale m
  unfolding rows_update_size
  exact_update t =
      let R = joint_row_count p t in
      let W = λ (j : ℕ). row_weight_in (exact m.scales) m p t j in
      let each = nat_sum_le R (λ j. nat_sum (joint_observations m)
      (λ o. total_size m (weights_after_in (exact m.scales) m (W j) (joint_row_action m p t j) o)))
      (λ j. total_size m (W j) * step_scale m)
      (λ j hj. updated_total m is (W j) (joint_row_action m p t j) (row_acts m h p shared.agents t j hj)) in
      let times = nat_sum_times R (λ j. total_size m (W j)) (step_scale m) in omega arith

  -- all weights of a stage
  exact_rows : (t : ℕ) → rows_total (exact m.scales) m p t ≤ m.scales.start * step_scale m ^ t
  exact_rows zero =
      let one = one_joint_row shared.agents in
      let e = exact_start_total m is in
      let f = scale_of_first m in
      let flat = nat_sum_const (joint_row_count p 0) (total_size m
      (λ s. (exact m.scales).start (start_at m s))) in
      let single = ap (λ (n : ℕ). n * total_size m (λ s. (exact m.scales).start (start_at m s))) one in
      omega arith
  exact_rows (suc t) =
      let next = next_rows_total (exact m.scales) m p t in
      let update = exact_update t in
      let rest = mul-le-mul_right (step_scale m) (exact_rows t) in
      let e = scale_of_next m t in omega arith

  -- they are weights of the stage
  exact_weights : (t : ℕ) → t < h → (j : ℕ) → j < joint_row_count p t
      → AreWeights true m t (row_weight_in (exact m.scales) m p t j)
  unfolding exact
  exact_weights zero lt j inside = (exact_can_update_weights m is h some mode).started
  exact_weights (suc t) lt j inside =
      next_rows_are_weights (exact m.scales) (exact_calls m.scales) m h
      (exact_can_update_weights m is h some mode)
      p shared.agents t (omega arith) (exact_weights t (omega arith)) (exact_rows (suc t)) j inside

  -- all next weights fit
  exact_update_fits : (t : ℕ) → t < h → rows_update_size (exact m.scales) m p t < 2 ^ 127
  exact_update_fits t lt =
      let update = exact_update t in
      let rest = mul-le-mul_right (step_scale m) (exact_rows t) in
      let e = scale_of_next m t in
      let grown = power_grows m is h some mode (suc t) lt in
      let room = weight_room m is h some mode in omega arith

  -- what they earn
  exact_earned : (f : ℕ) → f ≤ h → rows_earn_size (exact m.scales) m p h f
      ≤ f * (m.scales.start * step_scale m ^ h * reward_most m)
  exact_earned zero le = omega arith
  exact_earned (suc f) le =
      let r = h - suc f in
      let c = reward_most m * step_scale m ^ suc r in
      let R = joint_row_count p f in
      let W = λ (j : ℕ). row_weight_in (exact m.scales) m p f j in
      let rest = exact_earned f (omega arith) in
      let each = nat_sum_le R (λ j. reward_size (exact m.scales) m r (W j) (joint_row_action m p f j))
      (λ j. total_size m (W j) * c) (λ j hj. reward_total m is (W j) (joint_row_action m p f j) r
      (row_acts m h p shared.agents f j hj)) in
      let times = nat_sum_times R (λ j. total_size m (W j)) c in
      let mass = mul-le-mul_right c (exact_rows f) in
      let split : step_scale m ^ f * step_scale m ^ suc r ≡ step_scale m ^ h = sym
      (pow-add (step_scale m) f (suc r)) ∙ ap (λ (n : ℕ). step_scale m ^ n) (omega arith) in
      let e = regroup m.scales.start (step_scale m ^ f) (reward_most m) (step_scale m ^ suc r)
      (step_scale m ^ h)
      split in
      omega arith

  exact_earned_fits : rows_earn_size (exact m.scales) m p h h < 2 ^ 127
  exact_earned_fits = let most = exact_earned h (omega arith) in
      let room = whole_room m is h some mode h (omega arith) in omega arith

-- ---- outward mode

module _ (m : Model) (is : IsModel m) (h : ℕ) (horizon : h ≤ 24) (p : SharedPolicy)
    (shared : IsSharedOf m h p) where
  -- the joint rows of a stage are few, and so is what rounding adds to all of their weights
  few_rows : (t : ℕ) → t < h → joint_row_count p t ≤ 2 ^ 22
  few_rows t lt = let cells = shared.cells t lt in let more = le-mul_of_pos_right (joint_row_count p t)
      (some_state m is) in omega arith

  rounding : (t : ℕ) → t < h → joint_row_count p t * (m.states * (m.states + m.states * joint_observations m))
      ≤ 2 ^ 39
  rounding t lt =
      let R = joint_row_count p t in
      let S = m.states in
      let cells = shared.cells t lt in
      let states = is.sizes.states_limit in
      let few = (state_squares m is).1 in
      let more : S + S * joint_observations m ≤ 2 ^ 17 = omega arith in
      let all = mul-le-mul cells more in
      let order : R * (S * (S + S * joint_observations m)) ≡ S * R * (S + S * joint_observations m) =
      sym (mul_assoc R S (S + S * joint_observations m)) ∙ ap (λ (n : ℕ). n * (S + S * joint_observations m))
      (mul_comm R S) in
      omega arith

  -- all next weights of a stage
  outward_update : (t : ℕ) → t < h → ((j : ℕ) → j < joint_row_count p t
      → AreWeights false m t (row_weight_in (outward m.scales) m p t j))
      → rows_update_size (outward m.scales) m p t ≤ rows_total (outward m.scales) m p t + 2 ^ 39
  unfolding rows_update_size
  outward_update t lt weights =
      let R = joint_row_count p t in
      let c = m.states * (m.states + m.states * joint_observations m) in
      let W = λ (j : ℕ). row_weight_in (outward m.scales) m p t j in
      let each = nat_sum_le R (λ j. nat_sum (joint_observations m)
      (λ o. total_size m (weights_after_in (outward m.scales) m (W j) (joint_row_action m p t j) o)))
      (λ j. total_size m (W j) + c)
      (λ j hj. spread_total m is (W j) (joint_row_action m p t j) (row_acts m h p shared.agents t j hj)
      (λ s ps. weight_ordered (weights j hj) s ps)) in
      let sums = nat_sum_add R (λ j. total_size m (W j)) (λ j. c) in
      let flat = nat_sum_const R c in
      let little = rounding t lt in omega arith

  -- all weights of a stage are few, and weights of the stage
  outward_rows : (t : ℕ) → t < h →
      ((j : ℕ) → j < joint_row_count p t → AreWeights false m t (row_weight_in (outward m.scales) m p t j))
      × (rows_total (outward m.scales) m p t ≤ 2 ^ 41 + t * 2 ^ 39)
  unfolding outward
  outward_rows zero lt = (
    λ j inside. (outward_can_update_weights m is h horizon).started,
    let one = one_joint_row shared.agents in
        let all = outward_start_total m is in
        let states = is.sizes.states_limit in
        let flat = nat_sum_const (joint_row_count p 0) (total_size m
        (λ s. (outward m.scales).start (start_at m s))) in
        let single = ap (λ (n : ℕ). n * total_size m (λ s. (outward m.scales).start (start_at m s))) one in
        omega arith,
  )
  outward_rows (suc t) lt =
      let before = outward_rows t (omega arith) in
      let next = next_rows_total (outward m.scales) m p t in
      let update = outward_update t (omega arith) before.0 in
      let total : rows_total (outward m.scales) m p (suc t) ≤ 2 ^ 41 + suc t * 2 ^ 39 = omega
      (arith, before.1, next, update) in
      let steps : suc t ≤ 2 ^ 5 = omega arith in
      let small : rows_total (outward m.scales) m p (suc t) ≤ 2 ^ 63 + suc t * (m.states * m.states) =
      omega arith in (
        next_rows_are_weights (outward m.scales) (outward_calls m.scales) m h
            (outward_can_update_weights m is h horizon) p shared.agents t (omega arith) before.0 small,
        total,
      )

  -- all next weights fit
  outward_update_fits : (t : ℕ) → t < h → rows_update_size (outward m.scales) m p t < 2 ^ 127
  outward_update_fits t lt =
      let rows = outward_rows t lt in
      let update = outward_update t lt rows.0 in omega (arith, rows.1, update)

  -- what they earn
  outward_earned : (f : ℕ) → f ≤ h → rows_earn_size (outward m.scales) m p h f ≤ f * 2 ^ 104
  outward_earned zero le = omega arith
  outward_earned (suc f) le =
      let R = joint_row_count p f in
      let W = λ (j : ℕ). row_weight_in (outward m.scales) m p f j in
      let rest = outward_earned f (omega arith) in
      let rows = outward_rows f le in
      let each = nat_sum_most R (2 ^ 82) (λ j. reward_size (outward m.scales) m (h - suc f) (W j)
      (joint_row_action m p f j))
      (λ j hj. reward_room m is h horizon f (h - suc f) (W j) (joint_row_action m p f j) (omega arith)
      (rows.0 j hj) (row_acts m h p shared.agents f j hj)) in
      let few = mul-le-mul_right (2 ^ 82) (few_rows f le) in
      omega arith

  outward_earned_fits : rows_earn_size (outward m.scales) m p h h < 2 ^ 127
  outward_earned_fits = let most = outward_earned h (omega arith) in omega arith

-- ---- either mode

exact_can_share : (m : Model) → IsModel m → (h : ℕ) → 0 < h → true ≡ is_exact_mode m h
    → CanShare (exact m.scales) m h
unfolding exact
exact_can_share m is h some mode = record {
  weights = λ p t j shared lt inside. exact_weights m is h some mode p shared t lt j inside;
  update = λ p t shared lt. exact_update_fits m is h some mode p shared t lt;
  earned = λ p shared. exact_earned_fits m is h some mode p shared;
}

outward_can_share : (m : Model) → IsModel m → (h : ℕ) → h ≤ 24 → CanShare (outward m.scales) m h
unfolding outward
outward_can_share m is h horizon = record {
  weights = λ p t j shared lt inside. (outward_rows m is h horizon p shared t lt).0 j inside;
  update = λ p t shared lt. outward_update_fits m is h horizon p shared t lt;
  earned = λ p shared. outward_earned_fits m is h horizon p shared;
}

pub mode_can_share : (m : Model) → IsModel m → (h : ℕ) → 0 < h → h ≤ 24 → (e : Bool) → e ≡ is_exact_mode m h
    → CanShare (arithmetic e m.scales) m h
mode_can_share m is h some le true mode = exact_can_share m is h some mode
mode_can_share m is h some le false mode = outward_can_share m is h le
