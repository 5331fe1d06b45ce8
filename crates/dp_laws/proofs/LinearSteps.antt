-- rewards and the weights after a step are linear in the weights, and look-ahead is at most additive
use Rattle.std.proofs.Common.{◌≡◌, ℕ, zero, suc, ◌+◌, ◌-◌, ◌*◌, ◌^◌, Bool, true, false, cond, ℤ, pos, ◌+ℤ◌, ◌*ℤ◌}
use Rattle.std.proofs.Common.{◌≤ℤ◌, List, [], refl, sym, ap, ◌∙◌, arith}
use Rattle.dp_base.proofs.Ring.{v, nat, ◌⊕◌, ◌⊗◌, by_ring, zadd_le, zadd_swap, zle_of, zle_trans}
use Rattle.dp_laws.proofs.FollowedBound.{value_where}
use Rattle.dp_base.proofs.Sums.{int_sum_add, int_sum_ext, int_sum_le, mul_two}
use Rattle.dp_spec.specs.JointHistory.{int_history_sum, nat_history_sum}
use Rattle.dp_spec.specs.LookAhead.{action_look_ahead, look_ahead, weighted_reward, weights_after}
use Rattle.dp_spec.specs.MdpTable.{mdp_table}
use Rattle.dp_spec.specs.Model.{Model, joint_actions, joint_observations, obs_at, reward_at, step_scale, trans_at}
use Rattle.dp_base.specs.Sums.{int_sum, numbers_below}
use Rattle.dp_base.proofs.GreatestValues.{greatest_of_sums}
use Rattle.dp_base.proofs.NaturalSumLaws.{nat_sum_add, nat_sum_cond, nat_sum_ext}
use Rattle.dp_laws.proofs.HistorySums.{int_history_sum_ext, int_history_sum_swap, int_history_sum_weigh}
use Rattle.dp_laws.proofs.HistorySums.{nat_history_sum_ext, nat_history_sum_swap, nat_history_sum_times}

-- ---- the reward of a step by states
abbrev pub state_reward : Model → ℕ → ℕ → ℕ → ℤ
state_reward m r a s = int_sum m.states (λ t. int_sum (joint_observations m)
    (λ o. pos (trans_at m a s t * obs_at m a t o) *ℤ (reward_at m a s t o *ℤ pos
    (m.scales.discount * step_scale m ^ r))))

weight_out : (w p : ℕ) (x : ℤ) → pos (w * p) *ℤ x ≡ pos w *ℤ (pos p *ℤ x)
weight_out w p x = by_ring (nat (w * p) ⊗ v x) (nat w ⊗ (nat p ⊗ v x)) (omega arith)

pub reward_by_state : (m : Model) (r : ℕ) (w : ℕ → ℕ) (a : ℕ)
    → weighted_reward m r w a ≡ int_sum m.states (λ s. pos (w s) *ℤ state_reward m r a s)
unfolding weighted_reward
reward_by_state m r w a =
    let O = joint_observations m in
    int_sum_ext m.states _ _ (λ s p.
    int_sum_ext m.states _ _ (λ t q. int_sum_ext O _ _ (λ o u. weight_out (w s)
    (trans_at m a s t * obs_at m a t o)
    (reward_at m a s t o *ℤ pos (m.scales.discount * step_scale m ^ r))))
    ∙ sym (mul_two (pos (w s)) m.states O _))

-- the rewards of the joint histories that pass a test are the reward of their weights together
pub reward_of_histories : (m : Model) (r n f a : ℕ) (test : List ℕ → Bool) (w : List ℕ → ℕ → ℕ) →
    int_history_sum n f (λ H. cond (test H) (weighted_reward m r (w H) a) (pos 0))
    ≡ weighted_reward m r (λ s. nat_history_sum n f (λ H. cond (test H) (w H s) 0)) a
reward_of_histories m r n f a test w =
    int_history_sum_ext n f _ _ (λ H p.
    ap (λ x. cond (test H) x (pos 0)) (reward_by_state m r (w H) a)
    ∙ value_where (test H) m.states (w H) (λ q s. state_reward m r a s) [] [] (λ e. refl))
    ∙ int_history_sum_swap n f m.states _
    ∙ int_sum_ext m.states _ _ (λ s p. int_history_sum_weigh n f (λ H. cond (test H) (w H s) 0)
    (state_reward m r a s))
    ∙ sym (reward_by_state m r (λ s. nat_history_sum n f (λ H. cond (test H) (w H s) 0)) a)

cond_times : (t : Bool) (x c : ℕ) → cond t x 0 * c ≡ cond t (x * c) 0
cond_times true x c = refl
cond_times false x c = omega arith

-- the same of the weights after a step
pub weights_after_histories : (m : Model) (n f a o t : ℕ) (test : List ℕ → Bool) (w : List ℕ → ℕ → ℕ) →
    weights_after m (λ s. nat_history_sum n f (λ H. cond (test H) (w H s) 0)) a o t
    ≡ nat_history_sum n f (λ H. cond (test H) (weights_after m (w H) a o t) 0)
unfolding weights_after
weights_after_histories m n f a o t test w =
    let K = λ (s : ℕ). trans_at m a s t * obs_at m a t o * m.scales.gain in
    nat_sum_ext m.states _ (λ s. nat_history_sum n f (λ H. cond (test H) (w H s * K s) 0))
    (λ s p. sym (nat_history_sum_times n f (λ H. cond (test H) (w H s) 0) (K s))
    ∙ nat_history_sum_ext n f _ _ (λ H q. cond_times (test H) (w H s) (K s)))
    ∙ sym (nat_history_sum_swap n f m.states (λ H s. cond (test H) (w H s * K s) 0))
    ∙ nat_history_sum_ext n f _ _ (λ H q. nat_sum_cond m.states (test H) (λ s. w H s * K s))

-- ---- two weights together
together : (x y : ℕ) (z : ℤ) → pos (x + y) *ℤ z ≡ pos x *ℤ z +ℤ pos y *ℤ z
together x y z = by_ring (nat (x + y) ⊗ v z) (nat x ⊗ v z ⊕ nat y ⊗ v z) (omega arith)

pub reward_together : (m : Model) (r : ℕ) (w u : ℕ → ℕ) (a : ℕ)
    → weighted_reward m r (λ s. w s + u s) a ≡ weighted_reward m r w a +ℤ weighted_reward m r u a
reward_together m r w u a =
    reward_by_state m r (λ s. w s + u s) a
    ∙ int_sum_ext m.states _ _ (λ s p. together (w s) (u s) (state_reward m r a s))
    ∙ int_sum_add m.states (λ s. pos (w s) *ℤ state_reward m r a s) (λ s. pos (u s) *ℤ state_reward m r a s)
    ∙ (λ j. sym (reward_by_state m r w a) j +ℤ sym (reward_by_state m r u a) j)

times_together : (x y k : ℕ) → (x + y) * k ≡ x * k + y * k
times_together x y k = omega arith

after_together : (m : Model) (w u : ℕ → ℕ) (a o t : ℕ)
    → weights_after m (λ s. w s + u s) a o t ≡ weights_after m w a o t + weights_after m u a o t
unfolding weights_after
after_together m w u a o t =
    let K = λ (s : ℕ). trans_at m a s t * obs_at m a t o * m.scales.gain in
    nat_sum_ext m.states _ _ (λ s p. times_together (w s) (u s) (K s))
    ∙ nat_sum_add m.states (λ s. w s * K s) (λ s. u s * K s)

step_together : (m : Model) (r k : ℕ) (w u : ℕ → ℕ) (a : ℕ)
    → ((w u : ℕ → ℕ) → look_ahead m r (λ s. w s + u s) k ≤ℤ (look_ahead m r w k +ℤ look_ahead m r u k)) →
    (weighted_reward m r (λ s. w s + u s) a +ℤ int_sum (joint_observations m)
    (λ o. look_ahead m r (weights_after m (λ s. w s + u s) a o) k))
    ≤ℤ ((weighted_reward m r w a +ℤ int_sum (joint_observations m)
    (λ o. look_ahead m r (weights_after m w a o) k))
    +ℤ (weighted_reward m r u a +ℤ int_sum (joint_observations m)
    (λ o. look_ahead m r (weights_after m u a o) k)))
step_together m r k w u a small =
    let O = joint_observations m in
    zle_trans _ _ _
    (zadd_le _ _ _ _ (zle_of _ _ (reward_together m r w u a))
    (zle_trans _ _ _
    (int_sum_le O _ (λ o. look_ahead m r (weights_after m w a o) k +ℤ look_ahead m r (weights_after m u a o) k)
    (λ o p. zle_trans _ _ _ (zle_of _ _ (ap (λ x. look_ahead m r x k) (λ j t. after_together m w u a o t j)))
    (small (weights_after m w a o) (weights_after m u a o))))
    (zle_of _ _ (int_sum_add O (λ o. look_ahead m r (weights_after m w a o) k)
    (λ o. look_ahead m r (weights_after m u a o) k)))))
    (zle_of _ _ (zadd_swap (weighted_reward m r w a) (weighted_reward m r u a) _ _))

-- the look-ahead of two weights together is at most the sum of theirs
pub look_ahead_together : (m : Model) (r k : ℕ) (w u : ℕ → ℕ)
    → look_ahead m r (λ s. w s + u s) k ≤ℤ (look_ahead m r w k +ℤ look_ahead m r u k)
look_ahead_together m zero k w u = zle_of (pos 0) (pos 0 +ℤ pos 0) refl
look_ahead_together m (suc r) zero w u =
    zle_of _ _ (int_sum_ext m.states _ _ (λ s p. together (w s) (u s) (mdp_table m (suc r) s))
    ∙ int_sum_add m.states (λ s. pos (w s) *ℤ mdp_table m (suc r) s) (λ s. pos (u s) *ℤ mdp_table m (suc r) s))
look_ahead_together m (suc r) (suc k) w u = greatest_of_sums _ _ _ (numbers_below (joint_actions m))
    (λ a i. step_together m r k w u a (look_ahead_together m r k))

-- the same where a joint action is done first
pub action_look_ahead_together : (m : Model) (r k : ℕ) (w u : ℕ → ℕ) (a : ℕ)
    → action_look_ahead m r (λ s. w s + u s) a k ≤ℤ (action_look_ahead m r w a k +ℤ action_look_ahead m r u a k)
unfolding action_look_ahead
action_look_ahead_together m r k w u a = step_together m r (k - 1) w u a (look_ahead_together m r (k - 1))
