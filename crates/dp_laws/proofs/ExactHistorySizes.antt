-- In exact arithmetic: how large weights and earnings along joint histories and the bound of a front are.
use Rattle.std.proofs.Common.{◌≡◌, ℕ, zero, suc, ◌+◌, ◌-◌, ◌*◌, ◌^◌, ◌<◌, ◌≤◌, unsigned_abs, List, ◌∷◌, sym, ap, ◌∙◌}
use Rattle.std.proofs.Common.{arith}
use Rattle.std.proofs.Math.Nat.{mul-le-mul_right}
use Rattle.std.proofs.lemmas.Nat.{pow-add}
use Rattle.dp_spec.specs.declared.span.Span.{Span}
use Rattle.dp_laws.proofs.ExactSizes.{updated_total, reward_total}
use Rattle.dp_laws.proofs.ExactValueSizes.{looks_most, value_most}
use Rattle.dp_spec.proofs.ModeCondition.{reward_most}
use Rattle.dp_laws.proofs.OrderedSpans.{classes_total, total_size}
use Rattle.dp_spec.proofs.QuantityScales.{scale_of_first, scale_of_next, weights_times_value}
use Rattle.dp_laws.proofs.SizeSums.{action_look_le, agreeing_below}
use Rattle.dp_spec.specs.Arithmetic.{exact}
use Rattle.dp_spec.specs.Bound.{agreeing_actions}
use Rattle.dp_spec.specs.Calls.{size}
use Rattle.dp_spec.specs.Front.{Front, class_counts, fixed_joint_action}
use Rattle.dp_spec.specs.JointHistory.{nat_history_sum}
use Rattle.dp_spec.specs.JointNumbers.{product}
use Rattle.dp_spec.specs.Model.{IsModel, Model, joint_actions, joint_observations, start_at, step_scale}
use Rattle.dp_spec.specs.Quantities.{action_look_ahead_in, class_weight_in, history_weight_in, weights_after_in}
use Rattle.dp_spec.specs.Sizes.{reward_size}
use Rattle.dp_spec.specs.SizesOfEarnings.{IsActing, earned_size}
use Rattle.dp_spec.specs.SizesOfFronts.{IsChoosing, advanced_size, class_look_size, class_reward_size}
use Rattle.dp_base.specs.Sums.{greatest, nat_sum}
use Rattle.dp_base.proofs.GreatestValues.{greatest_abs}
use Rattle.dp_base.proofs.NaturalSumLaws.{nat_sum_ext, nat_sum_le, nat_sum_times}
use Rattle.dp_laws.proofs.HistorySums.{nat_history_sum_le, nat_history_sum_times}

module _ (m : Model) (is : IsModel m) where
  -- a start weight is its chance
  start_size : (b : ℕ) → size ((exact m.scales).start b) ≡ b
  unfolding exact
  start_size b = omega arith

  -- the weights of the start
  pub start_total : total_size m (λ s. (exact m.scales).start (start_at m s)) ≡ m.scales.start
  start_total = nat_sum_ext m.states _ (start_at m) (λ s p. start_size (start_at m s)) ∙ is.rows.start

  -- all weights of a time together
  pub histories_total : (act : List ℕ → ℕ) (t : ℕ) → IsActing m t act
      → nat_history_sum (joint_observations m) t (λ H. total_size m
      (history_weight_in (exact m.scales) m act H))
      ≤ m.scales.start * step_scale m ^ t
  histories_total act zero acts = let e = start_total in let f = scale_of_first m in omega arith
  histories_total act (suc t) acts =
      let O = joint_observations m in
      let V = λ (H : List ℕ). total_size m (history_weight_in (exact m.scales) m act H) in
      let each = nat_history_sum_le O t (λ H. nat_sum O (λ o. total_size m
      (history_weight_in (exact m.scales) m act (o ∷ H)))) (λ H. V H * step_scale m)
      (λ H p. updated_total m is (history_weight_in (exact m.scales) m act H) (act H)
      (acts t H (omega arith) p)) in
      let times = nat_history_sum_times O t V (step_scale m) in
      let rest = mul-le-mul_right (step_scale m) (histories_total act t
      (λ i H p h. acts i H (omega arith) h)) in
      let e = scale_of_next m t in
      omega arith

  -- the power of the horizon by a time and the steps that are left
  split_power : (f r h : ℕ) → f + r ≡ h → step_scale m ^ f * step_scale m ^ r ≡ step_scale m ^ h
  split_power f r h e = sym (pow-add (step_scale m) f r) ∙ ap (λ (n : ℕ). step_scale m ^ n) e

  -- a reward of the weights of a time, counted in the whole value
  regroup : (d p x q k : ℕ) → p * q ≡ k → d * p * (x * q) ≡ d * k * x
  regroup d p x q k e = omega (arith, ap (λ (n : ℕ). d * n * x) e)

  -- what is earned before a time
  pub earned_most : (act : List ℕ → ℕ) (h f : ℕ) → f ≤ h → IsActing m f act
      → earned_size (exact m.scales) m act h f ≤ f * (m.scales.start * step_scale m ^ h * reward_most m)
  earned_most act h zero le acts = omega arith
  earned_most act h (suc f) le acts =
      let O = joint_observations m in
      let r = h - suc f in
      let c = reward_most m * step_scale m ^ suc r in
      let W = λ (H : List ℕ). history_weight_in (exact m.scales) m act H in
      let rest = earned_most act h f (omega arith) (λ i H p h. acts i H (omega arith) h) in
      let each = nat_history_sum_le O f (λ H. reward_size (exact m.scales) m r (W H) (act H))
      (λ H. total_size m (W H) * c) (λ H p. reward_total m is (W H) (act H) r (acts f H (omega arith) p)) in
      let times = nat_history_sum_times O f (λ H. total_size m (W H)) c in
      let mass = mul-le-mul_right c (histories_total act f (λ i H p h. acts i H (omega arith) h)) in
      let e = regroup m.scales.start (step_scale m ^ f) (reward_most m) (step_scale m ^ suc r)
      (step_scale m ^ h)
      (split_power f (suc r) h (omega arith)) in
      omega arith

  -- ---- fronts
  -- all classes of a front together
  pub front_total : (F : Front) (n : ℕ) → IsActing m F.stage (fixed_joint_action m F)
      → nat_sum n (λ C. total_size m (class_weight_in (exact m.scales) m F C))
      ≤ m.scales.start * step_scale m ^ F.stage
  front_total F n acts = let all = classes_total (exact m.scales) m F n in
      let most = histories_total (fixed_joint_action m F) F.stage acts in omega arith

  -- look-ahead of a joint action, with look k
  pub action_look_most : (r k : ℕ) (ws : ℕ → Span) (a : ℕ) → a < joint_actions m
      → unsigned_abs (action_look_ahead_in (exact m.scales) m r ws a k) ≤ total_size m ws * value_most m (suc r)
  action_look_most r k ws a pa = let parts = action_look_le (exact m.scales) m r ws a k in
      let most = looks_most m is r (k - 1) ws a pa in omega arith

  -- a value over the steps that are left against the weights of a stage
  value_at_stage : (f r h : ℕ) → f + suc r ≡ h
      → m.scales.start * step_scale m ^ f * value_most m (suc r)
      ≡ suc r * (m.scales.start * step_scale m ^ h * reward_most m)
  unfolding value_most
  value_at_stage f r h e = weights_times_value m.scales.start (step_scale m ^ f) (suc r) (reward_most m)
      (step_scale m ^ suc r) (step_scale m ^ h) (split_power f (suc r) h e)

  -- the best look-aheads of all joint classes together
  pub class_looks_most : (F : Front) (r k h : ℕ) → F.stage + suc r ≡ h
      → IsActing m F.stage (fixed_joint_action m F)
      → class_look_size (exact m.scales) m r F k ≤ suc r * (m.scales.start * step_scale m ^ h * reward_most m)
  unfolding class_look_size
  class_looks_most F r k h e acts =
      let n = product (class_counts F.agents) in
      let V = value_most m (suc r) in
      let W = λ (C : ℕ). class_weight_in (exact m.scales) m F C in
      let each = nat_sum_le n (λ C. unsigned_abs (greatest (λ a. action_look_ahead_in (exact m.scales) m r (W C)
      a k) (agreeing_actions m F C))) (λ C. total_size m (W C) * V)
      (λ C p. greatest_abs (λ a. action_look_ahead_in (exact m.scales) m r (W C) a k) (total_size m (W C) * V)
      (agreeing_actions m F C) (λ a h. action_look_most r k (W C) a (agreeing_below m F C a h))) in
      let times = nat_sum_times n (λ C. total_size m (W C)) V in
      let all = mul-le-mul_right V (front_total F n acts) in
      let whole = value_at_stage F.stage r h e in
      omega arith

  -- all next weights of a front's joint classes
  pub advanced_most : (F : Front) (act : ℕ → ℕ) → IsActing m F.stage (fixed_joint_action m F)
      → IsChoosing m F act
      → advanced_size (exact m.scales) m F act ≤ m.scales.start * step_scale m ^ suc F.stage
  unfolding advanced_size
  advanced_most F act acts chosen =
      let n = product (class_counts F.agents) in
      let W = λ (C : ℕ). class_weight_in (exact m.scales) m F C in
      let each = nat_sum_le n (λ C. nat_sum (joint_observations m)
      (λ o. total_size m (weights_after_in (exact m.scales) m (W C) (act C) o)))
      (λ C. total_size m (W C) * step_scale m) (λ C p. updated_total m is (W C) (act C) (chosen C p)) in
      let times = nat_sum_times n (λ C. total_size m (W C)) (step_scale m) in
      let all = mul-le-mul_right (step_scale m) (front_total F n acts) in
      let e = scale_of_next m F.stage in
      omega arith

  -- all rewards of a front's joint classes
  pub class_rewards_most : (F : Front) (r h : ℕ) (act : ℕ → ℕ) → F.stage + suc r ≡ h
      → IsActing m F.stage (fixed_joint_action m F) → IsChoosing m F act
      → class_reward_size (exact m.scales) m r F act ≤ m.scales.start * step_scale m ^ h * reward_most m
  unfolding class_reward_size
  class_rewards_most F r h act e acts chosen =
      let n = product (class_counts F.agents) in
      let c = reward_most m * step_scale m ^ suc r in
      let W = λ (C : ℕ). class_weight_in (exact m.scales) m F C in
      let each = nat_sum_le n (λ C. reward_size (exact m.scales) m r (W C) (act C))
      (λ C. total_size m (W C) * c)
      (λ C p. reward_total m is (W C) (act C) r (chosen C p)) in
      let times = nat_sum_times n (λ C. total_size m (W C)) c in
      let all = mul-le-mul_right c (front_total F n acts) in
      let f = regroup m.scales.start (step_scale m ^ F.stage) (reward_most m) (step_scale m ^ suc r)
      (step_scale m ^ h) (split_power F.stage (suc r) h e) in
      omega arith
