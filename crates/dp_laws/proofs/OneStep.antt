-- One step forwards, and what table and look-ahead bound by it.
use Rattle.std.proofs.Common.{◌≡◌, ℕ, zero, suc, ◌*◌, ◌-◌, ◌^◌, ◌<◌, ℤ, pos, ◌+ℤ◌, ◌*ℤ◌, ◌≤ℤ◌, List, refl, sym, ap}
use Rattle.std.proofs.Common.{◌∙◌, arith}
use Rattle.std.proofs.lemmas.Int.{ints}
use Rattle.dp_laws.proofs.Trees.{joint_root_action_below, subtrees_fit}
use Rattle.dp_base.proofs.Order.{add_le_right}
use Rattle.dp_base.proofs.Ring.{v, nat, ◌⊕◌, ◌⊗◌, by_ring, zmul_le, zle_trans, zle_of}
use Rattle.dp_base.proofs.Sums.{int_sum_ext, int_sum_le, int_sum_add, mul_two, add_two, ext_two, rotate}
use Rattle.dp_base.proofs.Sums.{int_sum_weigh, le_two}
use Rattle.dp_spec.specs.LookAhead.{action_look_ahead, look_ahead, weighted_reward, weights_after}
use Rattle.dp_spec.specs.MdpTable.{mdp_table}
use Rattle.dp_spec.specs.Model.{IsModel, Model, joint_actions, joint_observations, obs_at, reward_at, step_scale}
use Rattle.dp_spec.specs.Model.{trans_at}
use Rattle.dp_spec.specs.PolicyTree.{IsPolicyOf, PolicyTree}
use Rattle.dp_base.specs.Sums.{int_sum}
use Rattle.dp_spec.specs.Value.{backward_value, joint_root_action, trees_after}
use Rattle.dp_base.proofs.GreatestValues.{le_greatest_below}
use Rattle.dp_base.proofs.NaturalSumLaws.{nat_sum_scale}

-- the step's summand
regroup : (w p g k : ℕ) (r n : ℤ)
    → pos w *ℤ (pos p *ℤ (r *ℤ pos k +ℤ pos g *ℤ n)) ≡ pos (w * p) *ℤ (r *ℤ pos k) +ℤ pos (w * (p * g)) *ℤ n
regroup w p g k r n =
    by_ring (nat w ⊗ (nat p ⊗ (v r ⊗ nat k ⊕ nat g ⊗ v n))) (nat (w * p) ⊗ (v r ⊗ nat k) ⊕ nat (w * (p * g))
    ⊗ v n)
    (omega arith)

-- the weights one step on against a function of the next state
weights_after_times : (m : Model) (w : ℕ → ℕ) (a o t : ℕ) (x : ℤ)
    → pos (weights_after m w a o t) *ℤ x
    ≡ int_sum m.states (λ s. pos (w s * (trans_at m a s t * obs_at m a t o * m.scales.gain)) *ℤ x)
unfolding weights_after
weights_after_times m w a o t x = sym (int_sum_weigh m.states _ x)

-- one step forwards from weights, whatever comes after
pub one_step_to : (m : Model) (r : ℕ) (w : ℕ → ℕ) (a : ℕ) (N : ℕ → ℕ → ℤ) →
    int_sum m.states (λ s. pos (w s) *ℤ int_sum m.states (λ t. int_sum (joint_observations m) (λ o.
    pos (trans_at m a s t * obs_at m a t o) *ℤ (reward_at m a s t o *ℤ pos
    (m.scales.discount * step_scale m ^ r)
    +ℤ pos m.scales.gain *ℤ N t o))))
    ≡ weighted_reward m r w a +ℤ int_sum (joint_observations m)
    (λ o. int_sum m.states (λ t. pos (weights_after m w a o t) *ℤ N t o))
unfolding weighted_reward
one_step_to m r w a N =
    let S = m.states in
    let O = joint_observations m in
    let B = λ (s : ℕ) (t : ℕ) (o : ℕ). pos (w s * (trans_at m a s t * obs_at m a t o)) *ℤ
    (reward_at m a s t o *ℤ pos (m.scales.discount * step_scale m ^ r)) in
    let C = λ (s : ℕ) (t : ℕ) (o : ℕ). pos (w s * (trans_at m a s t * obs_at m a t o * m.scales.gain))
    *ℤ N t o in
    int_sum_ext S _ (λ s. int_sum S (λ t. int_sum O (λ o. B s t o)) +ℤ int_sum S
    (λ t. int_sum O (λ o. C s t o)))
    (λ s h.
    mul_two (pos (w s)) S O _
    ∙ ext_two S O _ (λ t o. B s t o +ℤ C s t o) (λ t o p q. regroup (w s) (trans_at m a s t * obs_at m a t o)
    m.scales.gain (m.scales.discount * step_scale m ^ r) (reward_at m a s t o) (N t o))
    ∙ add_two S O (B s) (C s))
    ∙ int_sum_add S (λ s. int_sum S (λ t. int_sum O (λ o. B s t o)))
    (λ s. int_sum S (λ t. int_sum O (λ o. C s t o)))
    ∙ ap (λ x. int_sum S (λ s. int_sum S (λ t. int_sum O (λ o. B s t o))) +ℤ x)
    (rotate S S O C ∙ ext_two O S _ _ (λ o t p q. sym (weights_after_times m w a o t (N t o))))

-- one step forwards: weights against the value are the reward and the weights one step on against the value after it
pub one_step : (m : Model) (r : ℕ) (w : ℕ → ℕ) (qs : List PolicyTree) →
    int_sum m.states (λ s. pos (w s) *ℤ backward_value m (suc r) s qs)
    ≡ weighted_reward m r w (joint_root_action m qs) +ℤ int_sum (joint_observations m)
    (λ o. int_sum m.states (λ t. pos (weights_after m w (joint_root_action m qs) o t) *ℤ backward_value m r t
    (trees_after m qs o)))
one_step m r w qs = one_step_to m r w (joint_root_action m qs)
    (λ t o. backward_value m r t (trees_after m qs o))

-- the joint action at the roots exists
pub root_joint_action_below : (m : Model) (r : ℕ) (qs : List PolicyTree) → IsPolicyOf m (suc r) qs
    → joint_root_action m qs < joint_actions m
unfolding joint_root_action joint_actions
root_joint_action_below m r qs h = joint_root_action_below h

-- what remains after a joint observation is a joint policy of one step less
pub trees_after_fit : (m : Model) (r : ℕ) (qs : List PolicyTree) (o : ℕ) → o < joint_observations m
    → IsPolicyOf m (suc r) qs → IsPolicyOf m r (trees_after m qs o)
unfolding trees_after joint_observations
trees_after_fit m r qs o p h = subtrees_fit o p h

-- the summand of a step under a greater number
step_le : (p g : ℕ) (x n b : ℤ) → n ≤ℤ b → (pos p *ℤ (x +ℤ pos g *ℤ n)) ≤ℤ (pos p *ℤ x +ℤ pos (p * g) *ℤ b)
step_le p g x n b h =
    let le = zmul_le (p * g) n b h in
    let e : pos p *ℤ (x +ℤ pos g *ℤ n) ≡ pos p *ℤ x +ℤ pos (p * g) *ℤ n = by_ring (nat p ⊗ (v x ⊕ nat g ⊗ v n))
    (nat p ⊗ v x ⊕ nat (p * g) ⊗ v n) (omega arith) in
    rw e (omega (arith, ints))

-- an action with something after it that the table bounds
pub step_le_table : (m : Model) → IsModel m → (r s a : ℕ) (N : ℕ → ℕ → ℤ) → s < m.states → a < joint_actions m
    → ((t o : ℕ) → t < m.states → o < joint_observations m → N t o ≤ℤ mdp_table m r t) →
    int_sum m.states (λ t. int_sum (joint_observations m) (λ o.
    pos (trans_at m a s t * obs_at m a t o) *ℤ (reward_at m a s t o *ℤ pos
    (m.scales.discount * step_scale m ^ r)
    +ℤ pos m.scales.gain *ℤ N t o))) ≤ℤ mdp_table m (suc r) s
step_le_table m ok r s a N p a_in small =
    let S = m.states in
    let O = joint_observations m in
    let X = λ (t : ℕ) (o : ℕ). reward_at m a s t o *ℤ pos (m.scales.discount * step_scale m ^ r) in
    let P = λ (t : ℕ) (o : ℕ). trans_at m a s t * obs_at m a t o in
    let e : int_sum S (λ t. int_sum O (λ o. pos (P t o) *ℤ X t o +ℤ pos (P t o * m.scales.gain)
    *ℤ mdp_table m r t))
    ≡ int_sum S (λ t. int_sum O (λ o. pos (P t o) *ℤ X t o)) +ℤ int_sum S
    (λ t. pos (trans_at m a s t * m.scales.obs * m.scales.gain) *ℤ mdp_table m r t) =
    add_two S O _ _
    ∙ ap (λ x. int_sum S (λ t. int_sum O (λ o. pos (P t o) *ℤ X t o)) +ℤ x)
    (int_sum_ext S _ _ (λ t q. int_sum_weigh O (λ o. P t o * m.scales.gain) (mdp_table m r t)
    ∙ ap (λ (n : ℕ). pos n *ℤ mdp_table m r t) (nat_sum_scale O (trans_at m a s t) m.scales.gain (obs_at m a t)
    ∙ ap (λ (n : ℕ). trans_at m a s t * n * m.scales.gain) (ok.rows.obs a t a_in q)))) in
    zle_trans _ _ _
    (le_two S O _ _ (λ t o q u. step_le (P t o) m.scales.gain (X t o) _ _ (small t o q u)))
    (zle_trans _ _ _ (zle_of _ _ e) (le_greatest_below _ (joint_actions m) a a_in))

-- no joint policy of r steps is worth more in a state than the table says
pub value_le_table : (m : Model) → IsModel m → (r s : ℕ) (qs : List PolicyTree) → s < m.states
    → IsPolicyOf m r qs
    → backward_value m r s qs ≤ℤ mdp_table m r s
value_le_table m ok zero s qs p h = zle_of _ _ refl
value_le_table m ok (suc r) s qs p h =
    step_le_table m ok r s (joint_root_action m qs) (λ t o. backward_value m r t (trees_after m qs o)) p
    (root_joint_action_below m r qs h)
    (λ t o q u. value_le_table m ok r t (trees_after m qs o) q (trees_after_fit m r qs o u h))

-- weights against 0
pub weighted_zeros : (n : ℕ) (w : ℕ → ℕ) → int_sum n (λ s. pos (w s) *ℤ pos 0) ≡ pos 0
weighted_zeros n w = int_sum_weigh n w (pos 0) ∙ omega (arith, ints)

-- no joint policy of r steps earns more from weights than the look-ahead says
pub value_le_look_ahead : (m : Model) → IsModel m → (r k : ℕ) (w : ℕ → ℕ) (qs : List PolicyTree)
    → IsPolicyOf m r qs
    → int_sum m.states (λ s. pos (w s) *ℤ backward_value m r s qs) ≤ℤ look_ahead m r w k
value_le_look_ahead m ok zero k w qs h = zle_of _ _ (weighted_zeros m.states w)
value_le_look_ahead m ok (suc r) zero w qs h = int_sum_le m.states _ _
    (λ s p. zmul_le (w s) _ _ (value_le_table m ok (suc r) s qs p h))
value_le_look_ahead m ok (suc r) (suc k) w qs h =
    let a = joint_root_action m qs in
    zle_trans _ _ _ (zle_of _ _ (one_step m r w qs))
    (zle_trans _ _ _
    (add_le_right (weighted_reward m r w a) _ _ (int_sum_le (joint_observations m) _ _
    (λ o p. value_le_look_ahead m ok r k (weights_after m w a o) (trees_after m qs o)
    (trees_after_fit m r qs o p h))))
    (le_greatest_below _ (joint_actions m) a (root_joint_action_below m r qs h)))

-- the same for trees whose roots do a
pub value_le_action_look_ahead : (m : Model) → IsModel m → (r k : ℕ) (w : ℕ → ℕ) (qs : List PolicyTree)
    → IsPolicyOf m (suc r) qs
    → int_sum m.states (λ s. pos (w s) *ℤ backward_value m (suc r) s qs)
    ≤ℤ action_look_ahead m r w (joint_root_action m qs) k
unfolding action_look_ahead
value_le_action_look_ahead m ok r k w qs h =
    let a = joint_root_action m qs in
    zle_trans _ _ _ (zle_of _ _ (one_step m r w qs))
    (add_le_right (weighted_reward m r w a) _ _ (int_sum_le (joint_observations m) _ _
    (λ o p. value_le_look_ahead m ok r (k - 1) (weights_after m w a o) (trees_after m qs o)
    (trees_after_fit m r qs o p h))))
