-- The value of a joint policy by a recursion forwards, and as what is earned.
use Rattle.std.proofs.Common.{◌≡◌, ℕ, zero, suc, ◌*◌, ◌^◌, ◌<◌, ℤ, pos, ◌+ℤ◌, ◌*ℤ◌, List, refl, sym, ap, ◌∙◌, arith}
use Rattle.std.proofs.lemmas.Int.{ints}
use Rattle.dp_base.proofs.Sums.{int_sum_ext, int_sum_weigh}
use Rattle.dp_laws.proofs.ForwardValue.{forward_is_backward}
use Rattle.dp_laws.proofs.OneStep.{one_step}
use Rattle.dp_laws.proofs.HistorySums.{int_history_sum_ext, int_history_sum_zero}
use Rattle.dp_spec.specs.JointHistory.{IsJointHistory, earned_reward, trees_after_history}
use Rattle.dp_spec.specs.LookAhead.{look_ahead, weighted_reward, weights_after}
use Rattle.dp_spec.specs.MdpTable.{mdp_table}
use Rattle.dp_spec.specs.Model.{Model, joint_actions, joint_observations, obs_at, reward_at, start_at, step_scale}
use Rattle.dp_spec.specs.Model.{trans_at}
use Rattle.dp_spec.specs.PolicyTree.{PolicyTree}
use Rattle.dp_base.specs.Sums.{int_sum, numbers_below}
use Rattle.dp_spec.specs.Value.{backward_value, joint_root_action, policy_value, trees_after}
use Rattle.dp_base.proofs.GreatestValues.{greatest_ext}
use Rattle.dp_base.proofs.NaturalSumLaws.{nat_sum_ext}

-- what a recursion that updates weights returns
abbrev pub recursive_value : Model → ℕ → (ℕ → ℕ) → List PolicyTree → ℤ
recursive_value m zero w qs = pos 0
recursive_value m (suc r) w qs = weighted_reward m r w (joint_root_action m qs) +ℤ int_sum
    (joint_observations m)
    (λ o. recursive_value m r (weights_after m w (joint_root_action m qs) o) (trees_after m qs o))

-- it is the weights against the backward value
pub recursive_value_is : (m : Model) (r : ℕ) (w : ℕ → ℕ) (qs : List PolicyTree)
    → recursive_value m r w qs ≡ int_sum m.states (λ s. pos (w s) *ℤ backward_value m r s qs)
recursive_value_is m zero w qs = sym (int_sum_weigh m.states w (pos 0) ∙ omega (arith, ints))
recursive_value_is m (suc r) w qs =
    ap (λ x. weighted_reward m r w (joint_root_action m qs) +ℤ x)
    (int_sum_ext (joint_observations m) _ _ (λ o p. recursive_value_is m r
    (weights_after m w (joint_root_action m qs) o) (trees_after m qs o)))
    ∙ sym (one_step m r w qs)

-- from the start it is the value
pub policy_value_is_recursive : (m : Model) (h : ℕ) (qs : List PolicyTree)
    → policy_value m h qs ≡ recursive_value m h (start_at m) qs
unfolding policy_value
policy_value_is_recursive m h qs = sym (recursive_value_is m h (start_at m) qs)

-- the value is all that is earned, where act gives the joint actions of the policy
pub all_is_earned : (m : Model) (act : List ℕ → ℕ) (qs : List PolicyTree) (h : ℕ) →
    ((t : ℕ) (H : List ℕ) → t < h → IsJointHistory (joint_observations m) t H
    → joint_root_action m (trees_after_history m qs H) ≡ act H) →
    policy_value m h qs ≡ earned_reward m act h h
all_is_earned m act qs h does =
    forward_is_backward m act qs h h 0 (omega arith) does
    ∙ ap (λ x. earned_reward m act h h +ℤ x) (int_history_sum_ext (joint_observations m) h _ (λ H. pos 0)
    (λ H p. int_sum_weigh m.states _ (pos 0) ∙ omega (arith, ints))
    ∙ int_history_sum_zero (joint_observations m) h)
    ∙ omega (arith, ints)

-- the value of a policy is what its own joint actions earn
pub value_is_earned : (m : Model) (h : ℕ) (qs : List PolicyTree)
    → policy_value m h qs ≡ earned_reward m (λ H. joint_root_action m (trees_after_history m qs H)) h h
value_is_earned m h qs = all_is_earned m (λ H. joint_root_action m (trees_after_history m qs H)) qs h
    (λ t H p q. refl)

-- only the weights of the states count
pub weights_after_ext : (m : Model) (w w' : ℕ → ℕ) (a o t : ℕ) → ((s : ℕ) → s < m.states → w s ≡ w' s)
    → weights_after m w a o t ≡ weights_after m w' a o t
unfolding weights_after
weights_after_ext m w w' a o t h = nat_sum_ext m.states _ _ (λ s p. ap
    (λ (n : ℕ). n * (trans_at m a s t * obs_at m a t o * m.scales.gain)) (h s p))

-- for the reward
pub weighted_reward_ext : (m : Model) (r : ℕ) (w w' : ℕ → ℕ) (a : ℕ) → ((s : ℕ) → s < m.states → w s ≡ w' s)
    → weighted_reward m r w a ≡ weighted_reward m r w' a
unfolding weighted_reward
weighted_reward_ext m r w w' a h =
    int_sum_ext m.states _ _ (λ s p. ap (λ (n : ℕ). int_sum m.states
    (λ t. int_sum (joint_observations m) (λ o. pos (n * (trans_at m a s t * obs_at m a t o)) *ℤ
    (reward_at m a s t o *ℤ pos (m.scales.discount * step_scale m ^ r))))) (h s p))

-- for look-ahead
pub look_ahead_ext : (m : Model) (r k : ℕ) (w w' : ℕ → ℕ) → ((s : ℕ) → s < m.states → w s ≡ w' s)
    → look_ahead m r w k ≡ look_ahead m r w' k
look_ahead_ext m zero k w w' h = refl
look_ahead_ext m (suc r) zero w w' h = int_sum_ext m.states _ _
    (λ s p. ap (λ (n : ℕ). pos n *ℤ mdp_table m (suc r) s) (h s p))
look_ahead_ext m (suc r) (suc k) w w' h =
    greatest_ext _ _ (numbers_below (joint_actions m)) (λ a i.
    ap (λ x. x +ℤ int_sum (joint_observations m) (λ o. look_ahead m r (weights_after m w a o) k))
    (weighted_reward_ext m r w w' a h)
    ∙ ap (λ x. weighted_reward m r w' a +ℤ x) (int_sum_ext (joint_observations m) _ _
    (λ o p. look_ahead_ext m r k (weights_after m w a o) (weights_after m w' a o)
    (λ t q. weights_after_ext m w w' a o t h))))
