-- In exact mode the size records of rewards, worth, the table, look-ahead and fronts hold, by the mode's condition.
use Rattle.std.proofs.Common.{◌≡◌, ℕ, suc, ◌+◌, ◌-◌, ◌*◌, ◌^◌, ◌<◌, ◌≤◌, true, unsigned_abs, List, refl, sym, ap, ◌∙◌}
use Rattle.std.proofs.Common.{arith}
use Rattle.std.proofs.Math.Nat.{le-mul_of_pos_right, mul-le-mul_left, mul-le-mul_right, mul-pos, one-le-pow, pow-suc}
use Rattle.std.proofs.Math.Nat.{pow-zero}
use Rattle.std.proofs.lemmas.Nat.{pow-add}
use Rattle.dp_spec.specs.declared.span.Span.{Span}
use Rattle.dp_laws.proofs.ExactHistorySizes.{advanced_most, class_rewards_most, class_looks_most, earned_most}
use Rattle.dp_laws.proofs.ExactHistorySizes.{front_total, histories_total}
use Rattle.dp_laws.proofs.ExactWeightUpdates.{exact_can_update_weights, chance_point, chances_step, power_grows}
use Rattle.dp_laws.proofs.ExactWeightUpdates.{weight_room, whole_room}
use Rattle.dp_laws.proofs.ExactSizes.{chance_size, gained_total, reward_total, tail_size}
use Rattle.dp_laws.proofs.ExactValueSizes.{looks_most, one_size, table_most, table_parts_most, value_most}
use Rattle.dp_laws.proofs.ExactValueSizes.{weighted_table_most, worth_most}
use Rattle.dp_laws.proofs.ActingHistories.{class_weights, front_acting}
use Rattle.dp_spec.proofs.ModeCondition.{reward_most, reward_most_some, step_scale_some}
use Rattle.dp_laws.proofs.OrderedSpans.{total_size}
use Rattle.dp_spec.proofs.QuantityScales.{reward_factor_is, step_scale_is, weights_times_value}
use Rattle.dp_spec.specs.Arithmetic.{exact, reward_factor}
use Rattle.dp_spec.specs.Calls.{IsPoint, exact_calls, size}
use Rattle.dp_spec.specs.Front.{Front, fixed_joint_action}
use Rattle.dp_spec.specs.JointHistory.{nat_history_sum}
use Rattle.dp_spec.specs.Mode.{is_exact_mode}
use Rattle.dp_spec.specs.JointHistory.{nat_history_sum}
use Rattle.dp_spec.specs.Model.{IsModel, Model, joint_actions, joint_observations, obs_at, reward_at, step_scale}
use Rattle.dp_spec.specs.Model.{trans_at}
use Rattle.dp_spec.specs.PolicyTree.{IsPolicyOf, PolicyTree}
use Rattle.dp_spec.specs.Quantities.{class_weight_in, history_weight_in, mdp_table_in}
use Rattle.dp_spec.specs.Sizes.{AreWeights, CanReward, IsStep, reward_size}
use Rattle.dp_spec.specs.SizesOfEarnings.{CanEvaluate, IsActing, earned_size, worth_size}
use Rattle.dp_spec.specs.SizesOfFronts.{CanRefine, IsChoosing, advanced_size, class_reward_size, class_look_size}
use Rattle.dp_spec.specs.SizesOfLookAhead.{CanLookAhead, next_look_size, weighted_table_size}
use Rattle.dp_spec.specs.SizesOfTable.{CanTabulate, table_later_size, table_reward_size}
use Rattle.dp_base.specs.Sums.{nat_sum}
use Rattle.dp_spec.specs.WellFormed.{IsFront}
use Rattle.dp_base.proofs.NaturalSumLaws.{nat_sum_at}

-- the weight 1 is one number
one_point : (m : Model) → IsPoint (exact m.scales).one
unfolding exact
one_point m = refl

module _ (m : Model) (is : IsModel m) (h : ℕ) (some : 0 < h) (mode : true ≡ is_exact_mode m h) where
  -- the power of the horizon by a time and the steps that are left
  split_power : (t r : ℕ) → t + r ≡ h → step_scale m ^ t * step_scale m ^ r ≡ step_scale m ^ h
  split_power t r e = sym (pow-add (step_scale m) t r) ∙ ap (λ (n : ℕ). step_scale m ^ n) e

  -- weights of a time against a value over the steps that are left
  value_room : (t r w : ℕ) → t + r ≡ h → w ≤ m.scales.start * step_scale m ^ t → w * value_most m r ≤ 2 ^ 126
  unfolding value_most
  value_room t r w e small =
      let le = mul-le-mul_right (r * reward_most m * step_scale m ^ r) small in
      let whole = whole_room m is h some mode r (omega arith) in
      let f = weights_times_value m.scales.start (step_scale m ^ t) r (reward_most m) (step_scale m ^ r)
      (step_scale m ^ h) (split_power t r e) in omega arith

  -- a reward of the weights of a time
  reward_room : (t r w : ℕ) → t + suc r ≡ h → w ≤ m.scales.start * step_scale m ^ t
      → w * (reward_most m * step_scale m ^ suc r) ≤ 2 ^ 126
  unfolding value_most
  reward_room t r w e small =
      let room = value_room t (suc r) w e small in
      grown w (reward_most m) (step_scale m ^ suc r) r (2 ^ 126) room
    where
      grown : (w x q r n : ℕ) → w * (suc r * x * q) ≤ n → w * (x * q) ≤ n
      grown w x q r n le = omega arith

  -- a value over fewer steps than the horizon, from the weight 1
  table_room : (r : ℕ) → r ≤ h → value_most m r ≤ 2 ^ 126
  table_room r le =
      let t = h - r in
      let room = value_room t r (m.scales.start * step_scale m ^ t) (omega arith) (omega arith) in
      let scale : 0 < m.scales.start * step_scale m ^ t = mul-pos is.scales.start
      (one-le-pow t (step_scale m) (step_scale_some m is)) in
      let le = le-mul_of_pos_right (value_most m r) scale in omega arith

  -- what a reward is multiplied by
  factor_room : (r : ℕ) → r < h → reward_factor m.scales r < 2 ^ 127
  unfolding value_most
  factor_room r lt =
      let room = table_room (suc r) lt in
      let part = le-mul_of_pos_right (step_scale m ^ suc r) (mul-pos {m = suc r} {n = reward_most m}
      (omega arith)
      (reward_most_some m)) in
      let e = reward_factor_is m r in
      let f = pow-suc (step_scale m) r in
      let le = mul-le-mul_left (step_scale m ^ r) (discount_le m.scales.trans m.scales.obs m.scales.discount
      (step_scale m) is.scales.trans is.scales.obs (step_scale_is m)) in
      omega arith
    where
      discount_le : (a b d k : ℕ) → 0 < a → 0 < b → a * b * d ≡ k → d ≤ k
      discount_le a b d k p q e = let le = le-mul_of_pos_right d (mul-pos p q) in omega arith

  -- ---- rewards
  -- the call for a part of a reward
  may_gain : (t r : ℕ) (ws : ℕ → Span) (a s u o : ℕ) → t + suc r ≡ h → AreWeights true m t ws → IsStep m a s u o
      → (exact_calls m.scales).Gain ((exact m.scales).chance (ws s) (trans_at m a s u) (obs_at m a u o))
      (reward_at m a s u o) r
  may_gain t r ws a s u o e are st =
      let G = λ (u o : ℕ). size ((exact m.scales).gain ((exact m.scales).chance (ws s) (trans_at m a s u)
      (obs_at m a u o)) (reward_at m a s u o) r) in
      let one = nat_sum_at (joint_observations m) (λ o. G u o) o st.seen in
      let all = nat_sum_at m.states (λ u. nat_sum (joint_observations m) (λ o. G u o)) u st.next in
      let most = gained_total m is (ws s) a s r st.action st.state in
      let weight = nat_sum_at m.states (λ s. size (ws s)) s st.state in
      let limit = are.limit in
      let room = reward_room t r (size (ws s)) e (omega arith) in
      (chance_point m.scales (ws s) _ _ (are.points refl s st.state), omega arith, factor_room r (omega arith))

  -- all parts of a reward
  rewards_fit : (t r : ℕ) (ws : ℕ → Span) (a : ℕ) → t + suc r ≡ h → AreWeights true m t ws → a < joint_actions m
      → reward_size (exact m.scales) m r ws a < 2 ^ 127
  rewards_fit t r ws a e are pa = let most = reward_total m is ws a r pa in
      let room = reward_room t r (total_size m ws) e are.limit in omega arith

  -- in exact mode rewards are allowed
  pub exact_can_reward : CanReward (exact m.scales) (exact_calls m.scales) m h
  unfolding exact
  exact_can_reward = record { gain = may_gain; add = rewards_fit }

  -- all parts of the worth of a joint policy
  worth_fits : (t r : ℕ) (ws : ℕ → Span) (qs : List PolicyTree) → t + r ≡ h → AreWeights true m t ws
      → IsPolicyOf m r qs → worth_size (exact m.scales) m r ws qs < 2 ^ 127
  worth_fits t r ws qs e are p = let most = worth_most m is r ws qs p in
      let room = value_room t r (total_size m ws) e are.limit in omega arith

  -- in exact mode worth can be added up
  pub exact_can_evaluate : CanEvaluate (exact m.scales) m h
  unfolding exact
  exact_can_evaluate = record { add = worth_fits }

  -- ---- the table
  -- the call with the weight 1
  table_chance : (a s t o : ℕ) → IsStep m a s t o
      → (exact_calls m.scales).Chance (exact m.scales).one (trans_at m a s t) (obs_at m a t o)
  table_chance a s t o st =
      let e = chance_size m.scales (exact m.scales).one (trans_at m a s t) (obs_at m a t o) in
      let f = ap (λ (n : ℕ). n * (trans_at m a s t * obs_at m a t o)) (one_size m) in
      let part = chances_step m is h some mode a s t o st in
      let grown = power_grows m is h some mode 1 some in
      let room = weight_room m is h some mode in
      let first : step_scale m ^ 1 ≡ step_scale m = pow-suc (step_scale m) 0
      ∙ ap (λ (n : ℕ). n * step_scale m) (pow-zero (step_scale m)) ∙ omega arith in
      let scale = le-mul_of_pos_right (step_scale m ^ 1) is.scales.start in
      (one_point m, omega arith)

  -- the call for a part of the reward now
  table_gain : (r a s t o : ℕ) → r < h → IsStep m a s t o
      → (exact_calls m.scales).Gain ((exact m.scales).chance (exact m.scales).one (trans_at m a s t)
      (obs_at m a t o)) (reward_at m a s t o) r
  unfolding value_most
  table_gain r a s t o lt st =
      let G = λ (t o : ℕ). size ((exact m.scales).gain ((exact m.scales).chance (exact m.scales).one
      (trans_at m a s t) (obs_at m a t o)) (reward_at m a s t o) r) in
      let one = nat_sum_at (joint_observations m) (λ o. G t o) o st.seen in
      let all = nat_sum_at m.states (λ t. nat_sum (joint_observations m) (λ o. G t o)) t st.next in
      let most = gained_total m is (exact m.scales).one a s r st.action st.state in
      let e = ap (λ (n : ℕ). n * (reward_most m * step_scale m ^ suc r)) (one_size m) in
      let room = table_room (suc r) lt in
      (chance_point m.scales (exact m.scales).one _ _ (one_point m), omega arith, factor_room r lt)

  -- the call for a part of the value after it
  table_carry : (r a s t : ℕ) → r < h → a < joint_actions m → s < m.states → t < m.states
      → (exact_calls m.scales).Carry (mdp_table_in (exact m.scales) m r t) (trans_at m a s t)
  unfolding table_later_size
  table_carry r a s t lt pa ps pt =
      let parts = table_parts_most m is r a s pa ps (λ t pt. table_most m is r t pt) in
      let one = nat_sum_at m.states (λ t. unsigned_abs ((exact m.scales).carry
      (mdp_table_in (exact m.scales) m r t) (trans_at m a s t))) t pt in
      let room = table_room (suc r) lt in omega arith

  -- all parts of a value of the table
  table_fits : (r a s : ℕ) → r < h → a < joint_actions m → s < m.states
      → table_reward_size (exact m.scales) m r a s + table_later_size (exact m.scales) m r a s < 2 ^ 127
  table_fits r a s lt pa ps = let parts = table_parts_most m is r a s pa ps (λ t pt. table_most m is r t pt) in
      let room = table_room (suc r) lt in omega arith

  -- in exact mode the table can be computed
  pub exact_can_tabulate : CanTabulate (exact m.scales) (exact_calls m.scales) m h
  exact_can_tabulate = record {
    chance = table_chance;
    gain = table_gain;
    carry = table_carry;
    add = table_fits;
  }

  -- ---- look-ahead
  -- the call for a weight against the table
  may_tail : (t r s : ℕ) (ws : ℕ → Span) → t + r ≡ h → AreWeights true m t ws → s < m.states
      → (exact_calls m.scales).Tail (ws s) (mdp_table_in (exact m.scales) m r s)
  may_tail t r s ws e are ps =
      let part = tail_size m.scales (ws s) (mdp_table_in (exact m.scales) m r s) in
      let le = mul-le-mul_left (size (ws s)) (table_most m is r s ps) in
      let one = nat_sum_at m.states (λ s. size (ws s)) s ps in
      let limit = are.limit in
      let room = value_room t r (size (ws s)) e (omega arith) in
      (are.points refl s ps, omega arith)

  -- all weights against the table
  tails_fit : (t r : ℕ) (ws : ℕ → Span) → t + r ≡ h → AreWeights true m t ws
      → weighted_table_size (exact m.scales) m r ws < 2 ^ 127
  tails_fit t r ws e are = let most = weighted_table_most m is r ws in
      let room = value_room t r (total_size m ws) e are.limit in omega arith

  -- the reward now and the look-aheads after it
  looks_fit : (t r k : ℕ) (ws : ℕ → Span) (a : ℕ) → t + suc r ≡ h → AreWeights true m t ws → a < joint_actions m
      → reward_size (exact m.scales) m r ws a + next_look_size (exact m.scales) m r ws a k < 2 ^ 127
  looks_fit t r k ws a e are pa = let most = looks_most m is r k ws a pa in
      let room = value_room t (suc r) (total_size m ws) e are.limit in omega arith

  -- in exact mode look-ahead can be computed
  pub exact_can_look_ahead : CanLookAhead (exact m.scales) (exact_calls m.scales) m h
  unfolding exact
  exact_can_look_ahead = record { tail = may_tail; tails = tails_fit; looks = looks_fit }

  -- ---- fronts
  -- all weights of a time
  weights_fit : (act : List ℕ → ℕ) (t : ℕ) → t ≤ h → IsActing m t act
      → nat_history_sum (joint_observations m) t (λ H. total_size m
      (history_weight_in (exact m.scales) m act H))
      < 2 ^ 127
  weights_fit act t le acts = let most = histories_total m is act t acts in
      let grown = power_grows m is h some mode t le in let room = weight_room m is h some mode in omega arith

  -- what a front has earned and its best look-aheads
  looks_of_front_fit : (F : Front) (r k : ℕ) → IsFront m h F → F.stage + suc r ≡ h
      → earned_size (exact m.scales) m (fixed_joint_action m F) h F.stage + class_look_size (exact m.scales)
      m r F k
      ≤ 2 ^ 126
  looks_of_front_fit F r k front e =
      let acts = front_acting m h F front in
      let earned = earned_most m is (fixed_joint_action m F) h F.stage (omega arith) acts in
      let looks = class_looks_most m is F r k h e acts in
      let room = whole_room m is h some mode h (omega arith) in
      let both = together F.stage r h (m.scales.start * step_scale m ^ h * reward_most m) e in
      omega arith
    where
      together : (f r h x : ℕ) → f + suc r ≡ h → f * x + suc r * x ≡ h * x
      together f r h x e = omega (arith, ap (λ (n : ℕ). n * x) e)

  -- the weights of a joint class
  class_limit : (F : Front) (C : ℕ) → IsFront m h F
      → total_size m (class_weight_in (exact m.scales) m F C) ≤ m.scales.start * step_scale m ^ F.stage
  class_limit F C front =
      let acts = front_acting m h F front in
      let all = front_total m is F (suc C) acts in
      let one = nat_sum_at (suc C) (λ C. total_size m (class_weight_in (exact m.scales) m F C)) C
      (omega arith) in
      omega arith

  -- they are weights of the stage
  weights_of_class : (F : Front) (C : ℕ) → IsFront m h F → F.stage < h
      → AreWeights true m F.stage (class_weight_in (exact m.scales) m F C)
  unfolding exact
  weights_of_class F C front lt = class_weights (exact m.scales) (exact_calls m.scales) m h
      (exact_can_update_weights m is h some mode) F C front lt (class_limit F C front)

  -- all next weights of a front's joint classes
  advanced_fits : (F : Front) (act : ℕ → ℕ) → IsFront m h F → F.stage < h → IsChoosing m F act
      → advanced_size (exact m.scales) m F act < 2 ^ 127
  advanced_fits F act front lt chosen =
      let most = advanced_most m is F act (front_acting m h F front) chosen in
      let grown = power_grows m is h some mode (suc F.stage) lt in
      let room = weight_room m is h some mode in omega arith

  -- what a front has earned and its rewards
  rewards_of_front_fit : (F : Front) (r : ℕ) (act : ℕ → ℕ) → IsFront m h F → F.stage + suc r ≡ h
      → IsChoosing m F act
      → earned_size (exact m.scales) m (fixed_joint_action m F) h F.stage + class_reward_size (exact m.scales)
      m r F act
      < 2 ^ 127
  rewards_of_front_fit F r act front e chosen =
      let acts = front_acting m h F front in
      let earned = earned_most m is (fixed_joint_action m F) h F.stage (omega arith) acts in
      let rewards = class_rewards_most m is F r h act e acts chosen in
      let room = whole_room m is h some mode (suc F.stage) (omega arith) in
      omega arith

  -- in exact mode a front can be refined
  pub exact_can_refine : (F : Front) → IsFront m h F → F.stage < h → CanRefine (exact m.scales) m h F
  unfolding exact
  exact_can_refine F front lt = record {
    weights = λ C. weights_of_class F C front lt;
    classify = weights_fit (fixed_joint_action m F) F.stage (omega arith) (front_acting m h F front);
    bound = λ r k e. looks_of_front_fit F r k front e;
    advance = λ act chosen. advanced_fits F act front lt chosen;
    rewards = λ r act e chosen. rewards_of_front_fit F r act front e chosen;
  }
