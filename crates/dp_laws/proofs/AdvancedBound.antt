-- a bound does not grow by advancing
use Rattle.std.proofs.Common.{◌≡◌, ℕ, zero, suc, ◌+◌, ◌-◌, ◌<◌, Bool, true, false, cond, eqb, ℤ, pos, ◌+ℤ◌, ◌≤ℤ◌}
use Rattle.std.proofs.Common.{List, refl, sym, ap, ◌∙◌, arith}
use Rattle.std.proofs.lemmas.Int.{ints}
use Rattle.dp_base.proofs.Order.{add_le_right}
use Rattle.dp_laws.proofs.AdvancedFronts.{action_at, action_before, as_many_agents, class_in_range, counts_are_pairs}
use Rattle.dp_laws.proofs.AdvancedFronts.{pair_weight, weight_same, weight_same_to}
use Rattle.dp_laws.proofs.AgreeingActions.{chosen_action_agrees}
use Rattle.dp_laws.proofs.JointPairs.{int_sum_pairs}
use Rattle.dp_laws.proofs.LinearSteps.{reward_of_histories}
use Rattle.dp_laws.proofs.LongerLook.{longer_look_le}
use Rattle.dp_laws.proofs.ConstantPolicies.{last_action}
use Rattle.dp_base.proofs.Ring.{zadd_le, zle_of, zle_trans}
use Rattle.dp_base.proofs.Sums.{int_sum_add, int_sum_ext, int_sum_le}
use Rattle.dp_laws.proofs.WellFormedSteps.{advanced_is_front}
use Rattle.dp_spec.specs.Bound.{agreeing_actions, bound_of}
use Rattle.dp_spec.specs.Front.{Front, class_counts, class_weight, fixed_joint_action, joint_class}
use Rattle.dp_spec.specs.JointHistory.{IsJointHistory, earned_reward, history_weight, int_history_sum}
use Rattle.dp_spec.specs.JointNumbers.{product}
use Rattle.dp_spec.specs.LookAhead.{action_look_ahead, look_ahead, weighted_reward, weights_after}
use Rattle.dp_spec.specs.Model.{IsModel, Model, joint_actions, joint_observations}
use Rattle.dp_spec.specs.Steps.{advanced_front, is_complete}
use Rattle.dp_base.specs.Sums.{greatest, int_sum, numbers_below}
use Rattle.dp_spec.specs.WellFormed.{IsFront}
use Rattle.dp_base.proofs.Members.{IsIn, filter-IsIn, some_in}
use Rattle.dp_base.proofs.GreatestValues.{greatest_ext, greatest_of_part, le_greatest}
use Rattle.dp_laws.proofs.HistorySums.{int_history_sum_ext, int_history_sum_group}
use Rattle.std.proofs.lemmas.Bool.{eqb-true}
use Rattle.dp_spec.specs.ClassSteps.{chosen_joint_action}

-- with look k + 1 a joint action earns its reward and the look-ahead with look k of what follows
pub action_look_ahead_is : (m : Model) (r : ℕ) (w : ℕ → ℕ) (a k : ℕ)
    → action_look_ahead m r w a (suc k)
    ≡ weighted_reward m r w a +ℤ int_sum (joint_observations m) (λ o. look_ahead m r (weights_after m w a o) k)
unfolding action_look_ahead
action_look_ahead_is m r w a k = let e : suc k - 1 ≡ k = omega arith in rw e

-- the greatest of some joint actions is at most the look-ahead with one step less of look
some_actions_le : (m : Model) → IsModel m → (r k : ℕ) (w : ℕ → ℕ) (xs : List ℕ) (a : ℕ) → IsIn a xs
    → ((x : ℕ) → IsIn x xs → IsIn x (numbers_below (joint_actions m))) →
    greatest (λ x. action_look_ahead m r w x (suc k)) xs ≤ℤ look_ahead m (suc r) w k
some_actions_le m ok r k w xs a some part =
    zle_trans _ _ _ (greatest_of_part _ xs (numbers_below (joint_actions m)) (some_in a xs some) part)
    (zle_trans _ _ _ (zle_of _ _ (greatest_ext _ _ (numbers_below (joint_actions m))
    (λ x i. action_look_ahead_is m r w x k)))
    (longer_look_le m ok (suc r) k (suc k) w (omega arith)))

agreeing_part : (m : Model) (F : Front) (C x : ℕ) → IsIn x (agreeing_actions m F C)
    → IsIn x (numbers_below (joint_actions m))
unfolding agreeing_actions
agreeing_part m F C x h = (filter-IsIn _ x (numbers_below (joint_actions m)) h).0

-- what is earned depends on the actions before it alone
earned_same : (m : Model) (act act' : List ℕ → ℕ) (h f : ℕ) →
    ((t : ℕ) (H : List ℕ) → t < f → IsJointHistory (joint_observations m) t H → act H ≡ act' H) →
    ((t : ℕ) (H : List ℕ) → t < f → IsJointHistory (joint_observations m) t H
    → history_weight m act H ≡ history_weight m act' H) →
    earned_reward m act h f ≡ earned_reward m act' h f
earned_same m act act' h zero actions weights = refl
earned_same m act act' h (suc f) actions weights =
    let rest = earned_same m act act' h f (λ t H p q. actions t H (omega arith) q)
    (λ t H p q. weights t H (omega arith) q) in
    let here = int_history_sum_ext (joint_observations m) f _
    (λ H. weighted_reward m (h - suc f) (history_weight m act' H) (act' H))
    (λ H p. let w = weights f H (omega arith) p in let a = actions f H (omega arith) p in
    λ j. weighted_reward m (h - suc f) (w j) (a j)) in
    λ j. rest j +ℤ here j

cond_same : (t : Bool) (x y : ℤ) → (t ≡ true → x ≡ y) → cond t x (pos 0) ≡ cond t y (pos 0)
cond_same true x y h = h refl
cond_same false x y h = refl

module _ (m : Model) (h : ℕ) (F : Front) (front : IsFront m h F) where
  abbrev G : Front
  G = advanced_front m F

  abbrev N : ℕ
  N = product (class_counts F.agents)

  -- the rewards of the stage's chosen actions, by joint classes
  stage_rewards : (r : ℕ)
      → int_history_sum (joint_observations m) F.stage (λ H. weighted_reward m r
      (history_weight m (fixed_joint_action m G) H) (fixed_joint_action m G H))
      ≡ int_sum N (λ C. weighted_reward m r (class_weight m F C) (chosen_joint_action m F C))
  unfolding class_weight
  stage_rewards r =
      let O = joint_observations m in
      let W = λ (H : List ℕ). history_weight m (fixed_joint_action m F) H in
      int_history_sum_group O F.stage N _ (joint_class m F) (class_in_range m h F front)
      ∙ int_sum_ext N _ _ (λ C p.
      int_history_sum_ext O F.stage _ (λ H. cond (eqb (joint_class m F H) C)
      (weighted_reward m r (W H) (chosen_joint_action m F C)) (pos 0))
      (λ H q. cond_same (eqb (joint_class m F H) C) _ _
      (λ e. let weights = sym (weight_same m h F front H q) in let action = action_at m h F front H q
      ∙ ap (chosen_joint_action m F) (eqb-true _ _ e) in λ j. weighted_reward m r (weights j) (action j)))
      ∙ reward_of_histories m r O F.stage (chosen_joint_action m F C) (λ H. eqb (joint_class m F H) C) W)

  -- what is earned before the next stage
  earned_advanced : (r : ℕ) → earned_reward m (fixed_joint_action m G) (suc F.stage + r) (suc F.stage)
      ≡ earned_reward m (fixed_joint_action m F) (F.stage + suc r) F.stage +ℤ int_sum N
      (λ C. weighted_reward m r (class_weight m F C) (chosen_joint_action m F C))
  earned_advanced r =
      let left : suc F.stage + r - suc F.stage ≡ r = omega arith in
      let all : suc F.stage + r ≡ F.stage + suc r = omega arith in
      let before = earned_same m (fixed_joint_action m F) (fixed_joint_action m G) (suc F.stage + r) F.stage
      (action_before m h F front) (λ t H p q. weight_same_to m h F front t H (omega arith) q) in
      let here = ap (λ (n : ℕ). int_history_sum (joint_observations m) F.stage
      (λ H. weighted_reward m n (history_weight m (fixed_joint_action m G) H) (fixed_joint_action m G H))) left
      ∙ stage_rewards r in
      let earned = sym before ∙ ap (λ (n : ℕ). earned_reward m (fixed_joint_action m F) n F.stage) all in
      λ j. earned j +ℤ here j

  -- what the joint classes of the next stage are bounded by
  rest_advanced : IsModel m → F.stage < h → is_complete F.agents ≡ true → (r k : ℕ) →
      int_sum (product (class_counts G.agents)) (λ D. greatest
      (λ a. action_look_ahead m r (class_weight m G D) a (suc k)) (agreeing_actions m G D))
      ≤ℤ int_sum N (λ C. int_sum (joint_observations m) (λ o. look_ahead m (suc r)
      (weights_after m (class_weight m F C) (chosen_joint_action m F C) o) k))
  unfolding joint_observations
  rest_advanced ok lt all r k =
      let O = joint_observations m in
      let ahead = λ (D : ℕ). look_ahead m (suc r) (class_weight m G D) k in
      zle_trans _ _ _
      (int_sum_le (product (class_counts G.agents)) _ ahead
      (λ D p. some_actions_le m ok r k (class_weight m G D) (agreeing_actions m G D) (chosen_joint_action m G D)
      (chosen_action_agrees m ok h G (advanced_is_front m h F front lt all) D p) (agreeing_part m G D)))
      (zle_of _ _ (ap (λ z. int_sum (product z) ahead) (counts_are_pairs m h F front)
      ∙ int_sum_pairs (class_counts F.agents) m.observations (as_many_agents front.agents) ahead
      ∙ int_sum_ext N _ _ (λ C hC. int_sum_ext O _ _ (λ o ho. ap (λ w. look_ahead m (suc r) w k)
      (λ j s. pair_weight m h F front C o s hC ho j)))))

  -- the chosen joint actions are among those that agree
  chosen_under : IsModel m → (r look : ℕ)
      → int_sum N (λ C. action_look_ahead m r (class_weight m F C) (chosen_joint_action m F C) look)
      ≤ℤ int_sum N (λ C. greatest (λ a. action_look_ahead m r (class_weight m F C) a look)
      (agreeing_actions m F C))
  chosen_under ok r look = int_sum_le N _ _ (λ C p. le_greatest
      (λ a. action_look_ahead m r (class_weight m F C) a look) (chosen_joint_action m F C)
      (agreeing_actions m F C)
      (chosen_action_agrees m ok h F front C p))

regroup : (e w o t b : ℤ) → w +ℤ o ≡ t → t ≤ℤ b → ((e +ℤ w) +ℤ o) ≤ℤ (e +ℤ b)
regroup e w o t b same le = omega (arith, ints)

-- a bound with a look of at least 1 does not grow by advancing
pub advanced_bound_le : (m : Model) → IsModel m → (h r look : ℕ) (F : Front) → IsFront m h F → F.stage < h
    → is_complete F.agents ≡ true → 0 < look →
    bound_of m r (advanced_front m F) look ≤ℤ bound_of m (suc r) F look
advanced_bound_le m ok h r zero F front lt all some = absurd (omega arith)
advanced_bound_le m ok h zero (suc k) F front lt all some =
    let N = product (class_counts F.agents) in
    zle_trans _ _ _ (zle_of _ _ (earned_advanced m h F front 0))
    (add_le_right _ _ _
    (zle_trans _ _ _ (zle_of _ _ (int_sum_ext N _ _ (λ C p. sym
    (last_action m (class_weight m F C) (chosen_joint_action m F C) (suc k)))))
    (chosen_under m h F front ok 0 (suc k))))
advanced_bound_le m ok h (suc r) (suc k) F front lt all some =
    let N = product (class_counts F.agents) in
    let O = joint_observations m in
    let reward = λ (C : ℕ). weighted_reward m (suc r) (class_weight m F C) (chosen_joint_action m F C) in
    let later = λ (C : ℕ). int_sum O (λ o. look_ahead m (suc r)
    (weights_after m (class_weight m F C) (chosen_joint_action m F C) o) k) in
    let earned = earned_reward m (fixed_joint_action m F) (F.stage + suc (suc r)) F.stage in
    zle_trans _ _ _ (zadd_le _ _ _ _ (zle_of _ _ (earned_advanced m h F front (suc r)))
    (rest_advanced m h F front ok lt all r k))
    (regroup earned (int_sum N reward) (int_sum N later) _ _
    (sym (int_sum_add N reward later) ∙ int_sum_ext N _ _ (λ C p. sym
    (action_look_ahead_is m (suc r) (class_weight m F C) (chosen_joint_action m F C) k)))
    (chosen_under m h F front ok (suc r) (suc k)))
