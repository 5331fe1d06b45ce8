-- In outward mode what is added up along joint histories stays within its type, up to a horizon of 24, by the limit
-- of stage cells.
use Rattle.std.proofs.Common.{◌≡◌, ℕ, zero, suc, ◌+◌, ◌-◌, ◌*◌, ◌^◌, ◌<◌, ◌≤◌, false, unsigned_abs, List, [], ◌∷◌, ap}
use Rattle.std.proofs.Common.{arith}
use Rattle.std.proofs.Math.Nat.{le-mul_of_pos_right, mul-le-mul, mul-le-mul_right, one-le-pow, pow-le-pow_right}
use Rattle.std.proofs.Math.Nat.{pow-suc, pow-zero}
use Rattle.dp_spec.specs.declared.span.Span.{Span}
use Rattle.dp_laws.proofs.ClassCounts.{joint_classes_within_histories}
use Rattle.dp_laws.proofs.ActingHistories.{class_weights, front_acting, history_weights}
use Rattle.dp_laws.proofs.OneStep.{trees_after_fit, root_joint_action_below}
use Rattle.dp_laws.proofs.OrderedSpans.{classes_total, total_size, weight_ordered}
use Rattle.dp_laws.proofs.OutwardLookSizes.{looks_room}
use Rattle.dp_laws.proofs.OutwardModeSizes.{limit_room, next_weights, outward_can_update_weights, reward_room}
use Rattle.dp_laws.proofs.OutwardModeSizes.{state_squares}
use Rattle.dp_laws.proofs.OutwardSizes.{next_total, start_total}
use Rattle.dp_laws.proofs.SizeSums.{action_look_le, agreeing_below}
use Rattle.dp_spec.specs.Arithmetic.{outward}
use Rattle.dp_spec.specs.Bound.{agreeing_actions}
use Rattle.dp_spec.specs.Calls.{outward_calls}
use Rattle.dp_spec.specs.Front.{Front, class_counts, fixed_joint_action}
use Rattle.dp_spec.specs.JointHistory.{IsJointHistory, nat_history_sum}
use Rattle.dp_spec.specs.JointNumbers.{product}
use Rattle.dp_spec.specs.Model.{IsModel, Model, joint_observations}
use Rattle.dp_spec.specs.PolicyTree.{IsPolicyOf, PolicyTree}
use Rattle.dp_spec.specs.Quantities.{action_look_ahead_in, class_weight_in, history_weight_in, weights_after_in}
use Rattle.dp_spec.specs.Sizes.{AreWeights, reward_size, weight_limit}
use Rattle.dp_spec.specs.SizesOfEarnings.{CanEvaluate, IsActing, earned_size, worth_size}
use Rattle.dp_spec.specs.SizesOfFronts.{IsChoosing, advanced_size, class_reward_size, CanRefine, class_look_size}
use Rattle.dp_base.specs.Sums.{greatest, nat_sum}
use Rattle.dp_spec.specs.Value.{joint_root_action, trees_after}
use Rattle.dp_spec.specs.WellFormed.{IsFront}
use Rattle.dp_base.proofs.GreatestValues.{greatest_abs}
use Rattle.dp_base.proofs.NaturalSumLaws.{nat_sum_at, nat_sum_most}
use Rattle.dp_laws.proofs.HistorySums.{nat_history_sum_const, nat_history_sum_le}
use Rattle.dp_spec.proofs.ModelLaws.{some_state, some_joint_observation}

-- how many rewards a joint policy of r steps has at most, for n joint observations
abbrev pub reward_count : ℕ → ℕ → ℕ
reward_count n zero = 0
reward_count n (suc r) = suc r * n ^ r

-- one reward and those after each joint observation
count_more : (n r : ℕ) → 0 < n → 1 + n * reward_count n r ≤ reward_count n (suc r)
count_more n zero some = let e = pow-zero n in omega arith
count_more n (suc r) some = let e = ap (λ (k : ℕ). suc r * k) (pow-suc n r) in
    let one = one-le-pow (suc r) n some in omega arith

module _ (m : Model) (is : IsModel m) (h : ℕ) (horizon : h ≤ 24)
    (cells : m.states * joint_observations m ^ (h - 1) ≤ 2 ^ 22) where
  -- the joint histories of a time before the horizon are at most 2^22
  histories_before : (t : ℕ) → t < h → joint_observations m ^ t ≤ 2 ^ 22
  histories_before t lt =
      let grows : joint_observations m ^ t ≤ joint_observations m ^ (h - 1) = pow-le-pow_right
      (some_joint_observation m is) (omega arith) in
      let states = le-mul_of_pos_right (joint_observations m ^ (h - 1)) (some_state m is) in
      omega arith

  -- ---- worth and earnings
  -- the worth of a joint policy by the number of its rewards
  worth_room : (t r : ℕ) (ws : ℕ → Span) (qs : List PolicyTree) → t + r ≡ h → AreWeights false m t ws
      → IsPolicyOf m r qs → worth_size (outward m.scales) m r ws qs
      ≤ reward_count (joint_observations m) r * 2 ^ 82
  worth_room t zero ws qs e are p = omega arith
  worth_room t (suc r) ws qs e are p =
      let O = joint_observations m in
      let a = joint_root_action m qs in
      let a_in = root_joint_action_below m r qs p in
      let reward = reward_room m is h horizon t r ws a (omega arith) are a_in in
      let each = nat_sum_most O (reward_count O r * 2 ^ 82) (λ o. worth_size (outward m.scales) m r
      (weights_after_in (outward m.scales) m ws a o) (trees_after m qs o))
      (λ o q. worth_room (suc t) r (weights_after_in (outward m.scales) m ws a o) (trees_after m qs o)
      (omega arith) (next_weights m is h horizon t ws a o are a_in q) (trees_after_fit m r qs o q p)) in
      let more = mul-le-mul_right (2 ^ 82) (count_more O r (some_joint_observation m is)) in
      omega arith

  -- their number is at most 2^27
  count_room : (r : ℕ) → r ≤ h → reward_count (joint_observations m) r ≤ 2 ^ 27
  count_room zero le = omega arith
  count_room (suc r) le = let steps : suc r ≤ 2 ^ 5 = omega arith in mul-le-mul steps (histories_before r le)

  -- all parts of the worth of a joint policy
  worth_fits : (t r : ℕ) (ws : ℕ → Span) (qs : List PolicyTree) → t + r ≡ h → AreWeights false m t ws
      → IsPolicyOf m r qs → worth_size (outward m.scales) m r ws qs < 2 ^ 127
  worth_fits t r ws qs e are p = let most = worth_room t r ws qs e are p in
      let few = mul-le-mul_right (2 ^ 82) (count_room r (omega arith)) in omega arith

  -- in outward mode worth can be added up
  pub outward_can_evaluate : CanEvaluate (outward m.scales) m h
  unfolding outward
  outward_can_evaluate = record { add = worth_fits }

-- ---- up to a stage k that is within the limit of stage cells
module _ (m : Model) (is : IsModel m) (h : ℕ) (horizon : h ≤ 24) (k : ℕ)
    (cells : m.states * joint_observations m ^ k ≤ 2 ^ 22) where
  -- the joint histories of a time up to k are at most 2^22
  histories_until : (t : ℕ) → t ≤ k → joint_observations m ^ t ≤ 2 ^ 22
  histories_until t le =
      let grows : joint_observations m ^ t ≤ joint_observations m ^ k = pow-le-pow_right
      (some_joint_observation m is) le in
      let states = le-mul_of_pos_right (joint_observations m ^ k) (some_state m is) in
      omega arith

  -- the weights of a joint history are weights of its time
  weights_of : (act : List ℕ → ℕ) (t : ℕ) (H : List ℕ) → t ≤ h → IsActing m t act
      → IsJointHistory (joint_observations m) t H
      → AreWeights false m t (history_weight_in (outward m.scales) m act H)
  unfolding outward
  weights_of act t H le acts hist = history_weights (outward m.scales) (outward_calls m.scales) m h
      (outward_can_update_weights m is h horizon) act t H le acts hist

  -- what is earned by the time
  earned_room : (act : List ℕ → ℕ) (f : ℕ) → f ≤ h → f ≤ suc k → IsActing m f act
      → earned_size (outward m.scales) m act h f ≤ f * 2 ^ 104
  earned_room act zero le until acts = omega arith
  earned_room act (suc f) le until acts =
      let O = joint_observations m in
      let W = λ (H : List ℕ). history_weight_in (outward m.scales) m act H in
      let before : IsActing m f act = λ i H lt hist. acts i H (omega arith) hist in
      let rest = earned_room act f (omega arith) (omega arith) before in
      let each = nat_history_sum_le O f (λ H. reward_size (outward m.scales) m (h - suc f) (W H) (act H))
      (λ H. 2 ^ 82)
      (λ H hist. reward_room m is h horizon f (h - suc f) (W H) (act H) (omega arith)
      (weights_of act f H (omega arith) before hist) (acts f H (omega arith) hist)) in
      let flat = nat_history_sum_const O f (2 ^ 82) in
      let few = mul-le-mul_right (2 ^ 82) (histories_until f (omega arith)) in
      omega arith

  -- it is at most 2^109
  earned_most : (act : List ℕ → ℕ) (f : ℕ) → f ≤ h → f ≤ suc k → IsActing m f act
      → earned_size (outward m.scales) m act h f ≤ 2 ^ 109
  earned_most act f le until acts = let most = earned_room act f le until acts in omega arith

  -- ---- fronts
  -- the weights of one joint history
  history_total : (act : List ℕ → ℕ) (t : ℕ) (H : List ℕ) → t ≤ h → IsActing m t act
      → IsJointHistory (joint_observations m) t H
      → total_size m (history_weight_in (outward m.scales) m act H)
      ≤ 10 ^ 12 + m.states + t * (m.states * m.states)
  history_total act zero [] le acts hist = let all = start_total m is in omega arith
  history_total act zero (o ∷ H) le acts hist = absurd hist
  history_total act (suc t) [] le acts hist = absurd hist
  history_total act (suc t) (o ∷ H) le acts hist =
      let before : IsActing m t act = λ i H lt hist. acts i H (omega arith) hist in
      let rest = history_total act t H (omega arith) before hist.1 in
      let are = weights_of act t H (omega arith) before hist.1 in
      let next = next_total m is (history_weight_in (outward m.scales) m act H) (act H) o
      (acts t H (omega arith) hist.1) hist.0 (λ s p. weight_ordered are s p) in
      omega arith

  -- it is at most 2^40
  history_small : (act : List ℕ → ℕ) (t : ℕ) (H : List ℕ) → t ≤ h → IsActing m t act
      → IsJointHistory (joint_observations m) t H
      → total_size m (history_weight_in (outward m.scales) m act H) ≤ 2 ^ 40
  history_small act t H le acts hist =
      let most = history_total act t H le acts hist in
      let states = is.sizes.states_limit in
      let steps : t ≤ 2 ^ 5 = omega arith in
      let grown = mul-le-mul steps (state_squares m is).0 in
      omega arith

  -- all weights of a time
  histories_total : (act : List ℕ → ℕ) (t : ℕ) → t ≤ h → IsActing m t act
      → nat_history_sum (joint_observations m) t (λ H. total_size m
      (history_weight_in (outward m.scales) m act H))
      ≤ joint_observations m ^ t * 2 ^ 40
  histories_total act t le acts =
      let each = nat_history_sum_le (joint_observations m) t
      (λ H. total_size m (history_weight_in (outward m.scales) m act H)) (λ H. 2 ^ 40)
      (λ H hist. history_small act t H le acts hist) in
      let flat = nat_history_sum_const (joint_observations m) t (2 ^ 40) in omega arith

  -- those of the time after k are at most 2^30
  histories_to : (t : ℕ) → t ≤ suc k → joint_observations m ^ t ≤ 2 ^ 30
  histories_to zero le = let e = pow-zero (joint_observations m) in omega arith
  histories_to (suc t) le = let before = histories_until t (omega arith) in
      let few = mul-le-mul before is.sizes.joint_observations_limit in
      let e = pow-suc (joint_observations m) t in
      omega arith

  -- the weights of a joint class
  class_limit : (F : Front) (C : ℕ) → IsFront m h F → F.stage < h → F.stage ≤ k
      → total_size m (class_weight_in (outward m.scales) m F C) ≤ weight_limit false m F.stage
  class_limit F C front lt few =
      let all = histories_total (fixed_joint_action m F) F.stage (omega arith) (front_acting m h F front) in
      let classes = classes_total (outward m.scales) m F (suc C) in
      let one = nat_sum_at (suc C) (λ C. total_size m (class_weight_in (outward m.scales) m F C)) C
      (omega arith) in
      let all_few = mul-le-mul_right (2 ^ 40) (histories_until F.stage few) in omega arith

  -- they are weights of the stage
  weights_of_class : (F : Front) (C : ℕ) → IsFront m h F → F.stage < h → F.stage ≤ k
      → AreWeights false m F.stage (class_weight_in (outward m.scales) m F C)
  unfolding outward
  weights_of_class F C front lt few = class_weights (outward m.scales) (outward_calls m.scales) m h
      (outward_can_update_weights m is h horizon) F C front lt (class_limit F C front lt few)

  -- all weights of a time fit
  weights_fit : (act : List ℕ → ℕ) (t : ℕ) → t ≤ h → t ≤ suc k → IsActing m t act
      → nat_history_sum (joint_observations m) t (λ H. total_size m
      (history_weight_in (outward m.scales) m act H))
      < 2 ^ 127
  weights_fit act t le until acts = let all = histories_total act t le acts in
      let few = mul-le-mul_right (2 ^ 40) (histories_to t until) in omega arith

  -- the joint classes of a front of a stage up to k are at most 2^22
  classes_before : (F : Front) → IsFront m h F → F.stage ≤ k → product (class_counts F.agents) ≤ 2 ^ 22
  classes_before F front few = let classes = joint_classes_within_histories m h F front in
      let histories = histories_until F.stage few in omega arith

  -- the best look-ahead of a joint class
  class_look_most : (F : Front) (C r look : ℕ) → IsFront m h F → F.stage + suc r ≡ h → F.stage ≤ k
      → unsigned_abs (greatest (λ a. action_look_ahead_in (outward m.scales) m r
      (class_weight_in (outward m.scales) m F C) a look) (agreeing_actions m F C))
      ≤ 2 ^ 97
  class_look_most F C r look front e few =
      let W = class_weight_in (outward m.scales) m F C in
      let are = weights_of_class F C front (omega arith) few in
      greatest_abs (λ a. action_look_ahead_in (outward m.scales) m r W a look) (2 ^ 97) (agreeing_actions m F C)
      (λ a inside. let parts = action_look_le (outward m.scales) m r W a look in
      let most = looks_room m is h horizon F.stage r (look - 1) W a e are (agreeing_below m F C a inside) in
      omega arith)

  -- those of all joint classes together
  class_looks_most : (F : Front) (r look : ℕ) → IsFront m h F → F.stage + suc r ≡ h → F.stage ≤ k
      → class_look_size (outward m.scales) m r F look ≤ 2 ^ 119
  unfolding class_look_size
  class_looks_most F r look front e few =
      let n = product (class_counts F.agents) in
      let each = nat_sum_most n (2 ^ 97) (λ C. unsigned_abs (greatest
      (λ a. action_look_ahead_in (outward m.scales) m r (class_weight_in (outward m.scales) m F C) a look)
      (agreeing_actions m F C))) (λ C p. class_look_most F C r look front e few) in
      let all = mul-le-mul_right (2 ^ 97) (classes_before F front few) in
      omega arith

  -- what a front has earned and its best look-aheads
  front_fits : (F : Front) (r look : ℕ) → IsFront m h F → F.stage + suc r ≡ h → F.stage ≤ k
      → earned_size (outward m.scales) m (fixed_joint_action m F) h F.stage + class_look_size (outward m.scales)
      m r F look
      ≤ 2 ^ 126
  front_fits F r look front e few =
      let earned = earned_most (fixed_joint_action m F) F.stage (omega arith) (omega arith)
      (front_acting m h F front) in
      let looks = class_looks_most F r look front e few in omega arith

  -- all next weights of a front's joint classes
  advanced_fits : (F : Front) (act : ℕ → ℕ) → IsFront m h F → F.stage < h → F.stage ≤ k → IsChoosing m F act
      → advanced_size (outward m.scales) m F act < 2 ^ 127
  unfolding advanced_size
  advanced_fits F act front lt few chosen =
      let n = product (class_counts F.agents) in
      let W = λ (C : ℕ). class_weight_in (outward m.scales) m F C in
      let O = joint_observations m in
      let each = nat_sum_most n (O * 2 ^ 64) (λ C. nat_sum O
      (λ o. total_size m (weights_after_in (outward m.scales) m (W C) (act C) o)))
      (λ C p. nat_sum_most O (2 ^ 64) (λ o. total_size m (weights_after_in (outward m.scales) m (W C) (act C)
      o))
      (λ o q. limit_room m is h horizon (suc F.stage) (weights_after_in (outward m.scales) m (W C) (act C) o) lt
      (next_weights m is h horizon F.stage (W C) (act C) o (weights_of_class F C front lt few) (chosen C p)
      q))) in
      let all_few = mul-le-mul (classes_before F front few) is.sizes.joint_observations_limit in
      let all = mul-le-mul_right (2 ^ 64) all_few in
      omega arith

  -- what a front has earned and its rewards
  rewards_of_front_fit : (F : Front) (r : ℕ) (act : ℕ → ℕ) → IsFront m h F → F.stage + suc r ≡ h → F.stage ≤ k
      → IsChoosing m F act
      → earned_size (outward m.scales) m (fixed_joint_action m F) h F.stage + class_reward_size
      (outward m.scales)
      m r F act
      < 2 ^ 127
  unfolding class_reward_size
  rewards_of_front_fit F r act front e few chosen =
      let lt : F.stage < h = omega arith in
      let n = product (class_counts F.agents) in
      let W = λ (C : ℕ). class_weight_in (outward m.scales) m F C in
      let earned = earned_most (fixed_joint_action m F) F.stage (omega arith) (omega arith)
      (front_acting m h F front) in
      let each = nat_sum_most n (2 ^ 82) (λ C. reward_size (outward m.scales) m r (W C) (act C))
      (λ C p. reward_room m is h horizon F.stage r (W C) (act C) (omega arith)
      (weights_of_class F C front lt few) (chosen C p)) in
      let all_few = mul-le-mul_right (2 ^ 82) (classes_before F front few) in
      omega arith

  -- in outward mode a front of a stage up to k can be refined
  pub outward_can_refine : (F : Front) → IsFront m h F → F.stage < h → F.stage ≤ k
      → CanRefine (outward m.scales) m h F
  unfolding outward
  outward_can_refine F front lt few = record {
    weights = λ C. weights_of_class F C front lt few;
    classify = weights_fit (fixed_joint_action m F) F.stage (omega arith) (omega arith)
        (front_acting m h F front);
    bound = λ r look e. front_fits F r look front e few;
    advance = λ act chosen. advanced_fits F act front lt few chosen;
    rewards = λ r act e chosen. rewards_of_front_fit F r act front e few chosen;
  }
