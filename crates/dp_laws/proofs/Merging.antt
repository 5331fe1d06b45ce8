-- Merging two equivalent classes loses nothing.
use Rattle.std.proofs.Common.{◌≡◌, ℕ, zero, suc, ◌+◌, ◌<◌, Bool, true, false, cond, eqb, ℤ, pos, ◌+ℤ◌, ◌*ℤ◌, ◌≤ℤ◌}
use Rattle.std.proofs.Common.{List, [], ◌∷◌, get_or, refl, sym, ap, ◌∙◌, subst, arith}
use Rattle.dp_laws.proofs.JointPlaces.{below_others}
use Rattle.dp_base.proofs.Sums.{int_sum_ext, int_sum_two}
use Rattle.dp_laws.proofs.ForwardValue.{forward_is_backward}
use Rattle.dp_laws.proofs.OwnHistories.{own_histories_within, followed_from_start}
use Rattle.dp_laws.proofs.FollowedFronts.{trees_of, trees_after_history_are, trees_at_stage, classes_below}
use Rattle.dp_laws.proofs.FollowedBound.{follows_fixed}
use Rattle.dp_base.proofs.Order.{add_le_right}
use Rattle.dp_laws.proofs.ClassValue.{better_for_both}
use Rattle.dp_laws.proofs.MergedTrees.{fixed_joint_action_merged, joined_trees_by_agent, joined_trees_of}
use Rattle.dp_laws.proofs.MergedTrees.{merged_agents_follow, tree_for, trees_by_agent}
use Rattle.dp_laws.proofs.MergedAgents.{replaced_trees, replaced_trees_first, replaced_trees_other}
use Rattle.dp_laws.proofs.MergedAgents.{replaced_trees_second}
use Rattle.dp_spec.specs.Front.{AgentFront, Front, class_counts, fixed_joint_action, own_classes, own_histories}
use Rattle.dp_spec.specs.JointHistory.{IsJointHistory, earned_reward, history_weight, int_history_sum}
use Rattle.dp_spec.specs.JointHistory.{trees_after_history}
use Rattle.dp_spec.specs.JointNumbers.{parts_of, product}
use Rattle.dp_laws.specs.Following.{FollowsAgentFronts}
use Rattle.dp_spec.specs.Merge.{AreEquivalent, class_of_agent, class_of_others, class_total, inserted, merged_agents}
use Rattle.dp_spec.specs.Merge.{merged_front, place_weight, without}
use Rattle.dp_spec.specs.Model.{Model, joint_observations}
use Rattle.dp_spec.specs.PolicyTree.{IsPolicyOf, PolicyTree}
use Rattle.dp_spec.specs.Steps.{IsUnassigned}
use Rattle.dp_base.specs.Sums.{int_sum}
use Rattle.dp_spec.specs.Value.{backward_value, policy_value}
use Rattle.dp_spec.proofs.JointNumberLaws.{AreBelow, joint_number_below, parts_of-joint_number}
use Rattle.dp_laws.proofs.HistorySums.{int_history_sum_ext, int_history_sum_group}
use Rattle.std.proofs.lemmas.Bool.{eqb-true}

-- a class of an agent is below its count
class_in_count : (i c : ℕ) (ds : List AgentFront) (cs : List ℕ) → IsUnassigned i c ds
    → AreBelow (class_counts ds) cs
    → get_or cs i 0 < get_or (class_counts ds) i 0
class_in_count i c [] cs free h = absurd free
class_in_count i c (d ∷ ds) [] free h = absurd h
class_in_count zero c (d ∷ ds) (x ∷ xs) free h = h.0
class_in_count (suc i) c (d ∷ ds) (x ∷ xs) free h = class_in_count i c ds xs free h.1

-- so is one without an action
unassigned_in_count : (i c : ℕ) (ds : List AgentFront) → IsUnassigned i c ds → c < get_or (class_counts ds) i 0
unassigned_in_count i c [] free = absurd free
unassigned_in_count zero c (d ∷ ds) free = free.0
unassigned_in_count (suc i) c (d ∷ ds) free = unassigned_in_count i c ds free

-- equal trees where the test holds
value_at_class : (t : Bool) (n : ℕ) (w : ℕ → ℕ) (N : PolicyTree → ℕ → ℤ) (x x' : PolicyTree)
    → (t ≡ true → x ≡ x')
    → cond t (int_sum n (λ s. pos (w s) *ℤ N x s)) (pos 0) ≡ cond t (int_sum n (λ s. pos (w s) *ℤ N x' s))
    (pos 0)
value_at_class true n w N x x' h = ap (λ z. int_sum n (λ s. pos (w s) *ℤ N z s)) (h refl)
value_at_class false n w N x x' h = refl

module _ (m : Model) (F : Front) (r i : ℕ) (uss : List (ℕ → PolicyTree)) where
  -- what remains after a joint history where x is the tree of agent i, by the joint class y of the others
  abbrev value_with : ℕ → PolicyTree → ℕ → ℤ
  value_with y x s = backward_value m r s (inserted i x (trees_of (without i uss)
      (parts_of (without i (class_counts F.agents)) y)))

  -- the weight of a joint history and a state
  abbrev weight : List ℕ → ℕ → ℕ
  weight H s = history_weight m (fixed_joint_action m F) H s

  -- what class c of agent i earns with tree x
  abbrev class_value_of : ℕ → PolicyTree → ℤ
  class_value_of c x = int_history_sum (joint_observations m) F.stage
      (λ H. cond (eqb (class_of_agent m F i H) c) (int_sum m.states
      (λ s. pos (weight H s) *ℤ value_with (class_of_others m F i H) x s)) (pos 0))

  -- a tree for each class of the agent: the sum of what the classes earn
  value_by_class : (k : ℕ)
      → ((H : List ℕ) → IsJointHistory (joint_observations m) F.stage H → class_of_agent m F i H < k)
      → (z : ℕ → PolicyTree) →
      int_history_sum (joint_observations m) F.stage (λ H. int_sum m.states
      (λ s. pos (weight H s) *ℤ value_with (class_of_others m F i H) (z (class_of_agent m F i H)) s))
      ≡ int_sum k (λ c. class_value_of c (z c))
  value_by_class k in_range z =
      let O = joint_observations m in
      int_history_sum_group O F.stage k _ (class_of_agent m F i) in_range
      ∙ int_sum_ext k _ _ (λ c p.
      int_history_sum_ext O F.stage _ _ (λ H h. value_at_class (eqb (class_of_agent m F i H) c) m.states
      (weight H)
      (λ x s. value_with (class_of_others m F i H) x s) _ _ (λ e. ap z (eqb-true _ _ e))))

  -- the value of a joint policy whose trees after the front are given by class
  value_of_policy : (qs : List PolicyTree) (F' : Front) (uss' : List (ℕ → PolicyTree)) (z : ℕ → PolicyTree)
      (k : ℕ)
      → F'.stage ≡ F.stage → fixed_joint_action m F' ≡ fixed_joint_action m F →
      FollowsAgentFronts F'.stage r m.actions m.observations F'.agents qs uss' →
      ((H : List ℕ) → IsJointHistory (joint_observations m) F.stage H → class_of_agent m F i H < k) →
      ((H : List ℕ) → IsJointHistory (joint_observations m) F.stage H
      → trees_after_history m qs H ≡ inserted i (z (class_of_agent m F i H))
      (trees_of (without i uss) (parts_of (without i (class_counts F.agents)) (class_of_others m F i H)))) →
      policy_value m (F.stage + r) qs ≡ earned_reward m (fixed_joint_action m F) (F.stage + r)
      F.stage +ℤ int_sum k
      (λ c. class_value_of c (z c))
  value_of_policy qs F' uss' z k st act ks in_range are =
      forward_is_backward m (fixed_joint_action m F) qs (F.stage + r) F.stage r refl
      (λ t H p h. follows_fixed m F' r qs uss' ks t H (subst (λ (f : ℕ). t < f) (sym st) p) h
      ∙ ap (λ g. g H) act)
      ∙ ap (λ x. earned_reward m (fixed_joint_action m F) (F.stage + r) F.stage +ℤ x)
      (int_history_sum_ext (joint_observations m) F.stage _ _
      (λ H h. ap (λ z. int_sum m.states (λ s. pos (weight H s) *ℤ backward_value m r s z)) (are H h))
      ∙ value_by_class k in_range z)

-- the class of agent i is below its count
class_in_range : (m : Model) (F : Front) (r : ℕ) (qs : List PolicyTree) (uss : List (ℕ → PolicyTree))
    → FollowsAgentFronts F.stage r m.actions m.observations F.agents qs uss → (i c : ℕ)
    → IsUnassigned i c F.agents →
    (H : List ℕ) → IsJointHistory (joint_observations m) F.stage H
    → class_of_agent m F i H < get_or (class_counts F.agents) i 0
unfolding class_of_agent joint_observations
class_in_range m F r qs uss ks i c free H h = class_in_count i c F.agents _ free
    (classes_below ks _ (own_histories_within m.observations F.stage H h))

-- the joint class of the others is below the product of their counts
others_in_range : (m : Model) (F : Front) (r : ℕ) (qs : List PolicyTree) (uss : List (ℕ → PolicyTree))
    → FollowsAgentFronts F.stage r m.actions m.observations F.agents qs uss → (i : ℕ) →
    (H : List ℕ) → IsJointHistory (joint_observations m) F.stage H
    → class_of_others m F i H < product (without i (class_counts F.agents))
unfolding class_of_others joint_observations
others_in_range m F r qs uss ks i H h = joint_number_below _ _
    (below_others i _ _ (classes_below ks _ (own_histories_within m.observations F.stage H h)))

-- what remains after a joint history of the stage, by agent i and the others
trees_after_front : (m : Model) (F : Front) (r : ℕ) (qs : List PolicyTree) (uss : List (ℕ → PolicyTree))
    → FollowsAgentFronts F.stage r m.actions m.observations F.agents qs uss → (i c : ℕ)
    → IsUnassigned i c F.agents →
    (H : List ℕ) → IsJointHistory (joint_observations m) F.stage H →
    trees_after_history m qs H ≡ inserted i (tree_for i uss (class_of_agent m F i H))
    (trees_of (without i uss) (parts_of (without i (class_counts F.agents)) (class_of_others m F i H)))
unfolding class_of_agent class_of_others joint_observations
trees_after_front m F r qs uss ks i c free H h =
    let w = own_histories_within m.observations F.stage H h in
    trees_after_history_are m qs (followed_from_start ks) F.stage H h ∙ trees_at_stage ks _ w
    ∙ trees_by_agent ks i c free _ w
    ∙ ap (λ z. inserted i (tree_for i uss (get_or (own_classes F.agents (own_histories m.observations H)) i 0))
    (trees_of (without i uss) z)) (sym (parts_of-joint_number _ _ (below_others i _ _ (classes_below ks _ w))))

-- the same for the joint policy that follows the merged front
trees_after_merged : (m : Model) (F : Front) (r : ℕ) (qs qs' : List PolicyTree) (uss : List (ℕ → PolicyTree))
    → FollowsAgentFronts F.stage r m.actions m.observations F.agents qs uss → (i a b : ℕ) → a < b
    → IsUnassigned i b F.agents → (y : PolicyTree) →
    FollowsAgentFronts F.stage r m.actions m.observations (merged_agents i a b F.agents) qs'
    (joined_trees_of i a b y uss) →
    (H : List ℕ) → IsJointHistory (joint_observations m) F.stage H →
    trees_after_history m qs' H ≡ inserted i (replaced_trees a b y (tree_for i uss) (class_of_agent m F i H))
    (trees_of (without i uss) (parts_of (without i (class_counts F.agents)) (class_of_others m F i H)))
unfolding class_of_agent class_of_others joint_observations
trees_after_merged m F r qs qs' uss ks i a b lt free y ks' H h =
    let w = own_histories_within m.observations F.stage H h in
    trees_after_history_are m qs' (followed_from_start ks') F.stage H h ∙ trees_at_stage ks' _ w
    ∙ joined_trees_by_agent ks i a b lt free y _ w
    ∙ ap (λ z. inserted i (replaced_trees a b y (tree_for i uss)
    (get_or (own_classes F.agents (own_histories m.observations H)) i 0)) (trees_of (without i uss) z))
    (sym (parts_of-joint_number _ _ (below_others i _ _ (classes_below ks _ w))))

-- Some trees follow the merged front and are worth at least as much, and where steps are left they are a joint policy
-- if the old ones are.
pub merging_keeps_value : (m : Model) (F : Front) (r : ℕ) (qs : List PolicyTree) (uss : List (ℕ → PolicyTree))
    → FollowsAgentFronts F.stage r m.actions m.observations F.agents qs uss →
    (i a b : ℕ) → a < b → IsUnassigned i a F.agents → IsUnassigned i b F.agents → AreEquivalent m F i a b →
    (qs' : List PolicyTree) × (uss' : List (ℕ → PolicyTree))
    × FollowsAgentFronts F.stage r m.actions m.observations (merged_agents i a b F.agents) qs' uss'
    × (policy_value m (F.stage + r) qs ≤ℤ policy_value m (F.stage + r) qs')
    × ((h : ℕ) → F.stage + r ≡ h → 0 < r → IsPolicyOf m h qs → IsPolicyOf m h qs')
unfolding place_weight class_total
merging_keeps_value m F r qs uss ks i a b lt free free' eq =
    let O = joint_observations m in
    let k = get_or (class_counts F.agents) i 0 in
    let us = tree_for i uss in
    let b_in = unassigned_in_count i b F.agents free' in
    let better = better_for_both O F.stage m.states (product (without i (class_counts F.agents)))
    (weight m F r i uss) (class_of_agent m F i) (class_of_others m F i) PolicyTree (value_with m F r i uss)
    (others_in_range m F r qs uss ks i) a b (us a) (us b) eq.same in
    let y = better.0 in
    let new = merged_agents_follow ks i a b lt free free' y better.1 in
    let in_range = class_in_range m F r qs uss ks i b free' in
    let old_value = value_of_policy m F r i uss qs F uss us k refl refl ks in_range
    (trees_after_front m F r qs uss ks i b free') in
    let new_value = value_of_policy m F r i uss new.0 (merged_front F i a b) (joined_trees_of i a b y uss)
    (replaced_trees a b y us) k refl (fixed_joint_action_merged m F i a b) new.1 in_range
    (trees_after_merged m F r qs new.0 uss ks i a b lt free' y new.1) in
    let more = int_sum_two k a b (λ c. class_value_of m F r i uss c (us c))
    (λ c. class_value_of m F r i uss c (replaced_trees a b y us c)) (omega arith) b_in (omega arith)
    (λ c p na nb. ap (class_value_of m F r i uss c) (replaced_trees_other a b y us c na nb))
    (rw (← replaced_trees_first a b y us, ← replaced_trees_second a b y us) better.2) in
    (new.0, joined_trees_of i a b y uss, new.1, rw (old_value, new_value) (add_le_right _ _ _ more), new.2)
