-- A joint policy that follows a front with steps left is worth at most its bound.
use Rattle.std.proofs.Common.{◌≡◌, ℕ, suc, ◌+◌, ◌<◌, Bool, true, false, cond, eqb, ℤ, pos, ◌+ℤ◌, ◌*ℤ◌, ◌≤ℤ◌, List}
use Rattle.std.proofs.Common.{map, refl, sym, ap, ◌∙◌}
use Rattle.std.proofs.Math.IntN.{zero-*ℤ}
use Rattle.dp_base.proofs.Order.{add_le_right}
use Rattle.dp_base.proofs.Ring.{zle_trans, zle_of}
use Rattle.dp_base.proofs.Sums.{int_sum_ext, int_sum_le, int_sum_zero}
use Rattle.dp_laws.proofs.OneStep.{value_le_action_look_ahead, root_joint_action_below}
use Rattle.dp_laws.proofs.ForwardValue.{forward_is_backward}
use Rattle.dp_laws.proofs.OwnHistories.{own_histories_within, followed_from_start}
use Rattle.dp_laws.proofs.FollowedFronts.{trees_of, trees_after_history_are, trees_at_stage, classes_below}
use Rattle.dp_laws.proofs.FollowedFronts.{class_trees_fit, class_trees_agree, class_actions_below}
use Rattle.dp_laws.proofs.Keeping.{keeps_of_follows}
use Rattle.dp_laws.proofs.KeptActions.{kept_joint_action}
use Rattle.dp_spec.specs.Bound.{agreeing_actions, bound_of}
use Rattle.dp_spec.specs.Front.{Front, class_counts, class_weight, fixed_joint_action, joint_class, own_classes}
use Rattle.dp_spec.specs.Front.{own_histories}
use Rattle.dp_spec.specs.JointHistory.{IsJointHistory, earned_reward, history_weight, int_history_sum}
use Rattle.dp_spec.specs.JointHistory.{trees_after_history}
use Rattle.dp_spec.specs.JointNumbers.{parts_of, product}
use Rattle.dp_laws.specs.Following.{FollowsAgentFronts}
use Rattle.dp_spec.specs.LookAhead.{action_look_ahead}
use Rattle.dp_spec.specs.Model.{IsModel, Model, joint_actions, joint_observations}
use Rattle.dp_spec.specs.PolicyTree.{PolicyTree, root_action}
use Rattle.dp_base.specs.Sums.{greatest, int_sum, numbers_below}
use Rattle.dp_spec.specs.Value.{backward_value, joint_root_action, policy_value}
use Rattle.dp_spec.proofs.JointNumberLaws.{joint_number_below, parts_below, parts_of-joint_number}
use Rattle.dp_base.proofs.GreatestValues.{le_greatest}
use Rattle.dp_base.proofs.Members.{IsIn-below, IsIn-filter}
use Rattle.dp_laws.proofs.HistorySums.{int_history_sum_ext, int_history_sum_group, int_history_sum_swap}
use Rattle.dp_laws.proofs.HistorySums.{int_history_sum_weigh}
use Rattle.std.proofs.lemmas.Bool.{eqb-true}

-- weights against a value, where the test holds
pub value_where : (t : Bool) (n : ℕ) (w : ℕ → ℕ) (N : List PolicyTree → ℕ → ℤ) (q q' : List PolicyTree)
    → (t ≡ true → q ≡ q') →
    cond t (int_sum n (λ s. pos (w s) *ℤ N q s)) (pos 0) ≡ int_sum n (λ s. pos (cond t (w s) 0) *ℤ N q' s)
value_where true n w N q q' h = ap (λ x. int_sum n (λ s. pos (w s) *ℤ N x s)) (h refl)
value_where false n w N q q' h = sym (int_sum_ext n _ (λ s. pos 0) (λ s p. zero-*ℤ (N q' s)) ∙ int_sum_zero n)

-- the joint action that is done is the fixed one
pub follows_fixed : (m : Model) (F : Front) (r : ℕ) (qs : List PolicyTree) (uss : List (ℕ → PolicyTree))
    → FollowsAgentFronts F.stage r m.actions m.observations F.agents qs uss →
    (t : ℕ) (H : List ℕ) → t < F.stage → IsJointHistory (joint_observations m) t H
    → joint_root_action m (trees_after_history m qs H) ≡ fixed_joint_action m F H
follows_fixed m F r qs uss ks t H p h = kept_joint_action m F qs (keeps_of_follows m r F qs uss ks) t H p h

-- what remains after a joint history of the stage is given by its joint class
trees_by_class : (m : Model) (F : Front) (r : ℕ) (qs : List PolicyTree) (uss : List (ℕ → PolicyTree))
    → FollowsAgentFronts F.stage r m.actions m.observations F.agents qs uss →
    (H : List ℕ) → IsJointHistory (joint_observations m) F.stage H
    → trees_after_history m qs H ≡ trees_of uss (parts_of (class_counts F.agents) (joint_class m F H))
unfolding joint_class joint_observations
trees_by_class m F r qs uss ks H h =
    let w = own_histories_within m.observations F.stage H h in
    trees_after_history_are m qs (followed_from_start ks) F.stage H h
    ∙ trees_at_stage ks (own_histories m.observations H) w
    ∙ ap (trees_of uss) (sym (parts_of-joint_number (class_counts F.agents)
    (own_classes F.agents (own_histories m.observations H))
    (classes_below ks (own_histories m.observations H) w)))

-- joint classes are below the product of the counts
joint_class_below : (m : Model) (F : Front) (r : ℕ) (qs : List PolicyTree) (uss : List (ℕ → PolicyTree))
    → FollowsAgentFronts F.stage r m.actions m.observations F.agents qs uss →
    (H : List ℕ) → IsJointHistory (joint_observations m) F.stage H
    → joint_class m F H < product (class_counts F.agents)
unfolding joint_class joint_observations
joint_class_below m F r qs uss ks H h = joint_number_below _ _
    (classes_below ks (own_histories m.observations H) (own_histories_within m.observations F.stage H h))

-- the value after a front, by joint classes
pub value_by_joint_class : (m : Model) (F : Front) (r : ℕ) (qs : List PolicyTree) (uss : List (ℕ → PolicyTree))
    → FollowsAgentFronts F.stage r m.actions m.observations F.agents qs uss →
    int_history_sum (joint_observations m) F.stage (λ H. int_sum m.states
    (λ s. pos (history_weight m (fixed_joint_action m F) H s) *ℤ backward_value m r s
    (trees_after_history m qs H)))
    ≡ int_sum (product (class_counts F.agents)) (λ C. int_sum m.states
    (λ s. pos (class_weight m F C s) *ℤ backward_value m r s
    (trees_of uss (parts_of (class_counts F.agents) C))))
unfolding class_weight
value_by_joint_class m F r qs uss ks =
    let O = joint_observations m in
    int_history_sum_group O F.stage (product (class_counts F.agents)) _ (joint_class m F)
    (λ H h. joint_class_below m F r qs uss ks H h)
    ∙ int_sum_ext (product (class_counts F.agents)) _ _ (λ C p.
    let qC = trees_of uss (parts_of (class_counts F.agents) C) in
    int_history_sum_ext O F.stage _ (λ H. int_sum m.states (λ s. pos
    (cond (eqb (joint_class m F H) C) (history_weight m (fixed_joint_action m F) H s) 0)
    *ℤ backward_value m r s qC))
    (λ H h. value_where (eqb (joint_class m F H) C) m.states (history_weight m (fixed_joint_action m F) H)
    (λ q s. backward_value m r s q) (trees_after_history m qs H) qC
    (λ e. trees_by_class m F r qs uss ks H h ∙ ap (λ (c : ℕ). trees_of uss (parts_of (class_counts F.agents) c))
    (eqb-true _ _ e)))
    ∙ int_history_sum_swap O F.stage m.states _
    ∙ int_sum_ext m.states _ _ (λ s q. int_history_sum_weigh O F.stage
    (λ H. cond (eqb (joint_class m F H) C) (history_weight m (fixed_joint_action m F) H s) 0)
    (backward_value m r s qC)))

-- the joint action at the roots of a joint class agrees with the choices, so it counts
chosen_action_le_greatest : (m : Model) (F : Front) (r : ℕ) (qs : List PolicyTree) (uss : List (ℕ → PolicyTree))
    → FollowsAgentFronts F.stage (suc r) m.actions m.observations F.agents qs uss →
    (C : ℕ) → C < product (class_counts F.agents) → (f : ℕ → ℤ)
    → f (joint_root_action m (trees_of uss (parts_of (class_counts F.agents) C)))
    ≤ℤ greatest f (agreeing_actions m F C)
unfolding agreeing_actions joint_root_action
chosen_action_le_greatest m F r qs uss ks C p f =
    let cs = parts_of (class_counts F.agents) C in
    let inside = parts_below (class_counts F.agents) C p in
    let e = parts_of-joint_number m.actions (map root_action (trees_of uss cs))
    (class_actions_below ks cs inside) in
    le_greatest f _ (agreeing_actions m F C)
    (IsIn-filter _ _ (numbers_below (joint_actions m)) (IsIn-below (joint_actions m) _
    (root_joint_action_below m r (trees_of uss cs) (class_trees_fit ks cs inside)))
    (rw e (class_trees_agree ks cs inside)))

-- no policy that keeps a front earns more than its bound
pub following_policy_le_bound : (m : Model) → IsModel m
    → (F : Front) (r look : ℕ) (qs : List PolicyTree) (uss : List (ℕ → PolicyTree))
    → FollowsAgentFronts F.stage (suc r) m.actions m.observations F.agents qs uss →
    policy_value m (F.stage + suc r) qs ≤ℤ bound_of m (suc r) F look
following_policy_le_bound m ok F r look qs uss ks =
    let N = product (class_counts F.agents) in
    zle_trans _ _ _
    (zle_of _ _ (forward_is_backward m (fixed_joint_action m F) qs (F.stage + suc r) F.stage (suc r) refl
    (follows_fixed m F (suc r) qs uss ks)
    ∙ ap (λ x. earned_reward m (fixed_joint_action m F) (F.stage + suc r) F.stage +ℤ x)
    (value_by_joint_class m F (suc r) qs uss ks)))
    (add_le_right _ _ _ (int_sum_le N _ _ (λ C p.
    zle_trans _ _ _
    (value_le_action_look_ahead m ok r look (class_weight m F C)
    (trees_of uss (parts_of (class_counts F.agents) C)) (class_trees_fit ks _
    (parts_below (class_counts F.agents) C p)))
    (chosen_action_le_greatest m F r qs uss ks C p (λ a. action_look_ahead m r (class_weight m F C) a look)))))
