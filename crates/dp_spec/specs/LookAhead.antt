-- Look-ahead from weights over states, as if one agent saw every joint observation (the basis of Q_POMDP; Oliehoek
-- and Amato, chapter 4).
use Rattle.std.specs.Prelude.{ℕ, zero, suc, ◌*◌, ◌-◌, ◌^◌, ℤ, pos, ◌+ℤ◌, ◌*ℤ◌}
use Rattle.dp_base.specs.Sums.{int_sum, nat_sum, greatest, numbers_below}
use Rattle.dp_spec.specs.Model.{Model, joint_observations, joint_actions, trans_at, obs_at, reward_at, step_scale}
use Rattle.dp_spec.specs.MdpTable.{mdp_table}

-- the weights after joint action a and joint observation o
unfoldable pub weights_after : Model → (ℕ → ℕ) → ℕ → ℕ → ℕ → ℕ
weights_after m w a o t = nat_sum m.states (λ s. w s * (trans_at m a s t * obs_at m a t o * m.scales.gain))

-- the reward of joint action a from weights w, where r steps are left after this one
unfoldable pub weighted_reward : Model → ℕ → (ℕ → ℕ) → ℕ → ℤ
weighted_reward m r w a =
    int_sum m.states (λ s. int_sum m.states (λ t. int_sum (joint_observations m) (λ o.
    pos (w s * (trans_at m a s t * obs_at m a t o)) *ℤ
    (reward_at m a s t o *ℤ pos (m.scales.discount * step_scale m ^ r)))))

-- what can be earned from weights w over the r steps that are left, with look k: k steps of look-ahead, and then the
-- table
abbrev pub look_ahead : Model → ℕ → (ℕ → ℕ) → ℕ → ℤ
look_ahead m zero w k = pos 0
look_ahead m (suc r) w zero = int_sum m.states (λ s. pos (w s) *ℤ mdp_table m (suc r) s)
look_ahead m (suc r) w (suc k) =
    greatest (λ a. weighted_reward m r w a
    +ℤ int_sum (joint_observations m) (λ o. look_ahead m r (weights_after m w a o) k))
    (numbers_below (joint_actions m))

-- the same where joint action a is done now, with look k of at least 1; r steps are left after this one
unfoldable pub action_look_ahead : Model → ℕ → (ℕ → ℕ) → ℕ → ℕ → ℤ
action_look_ahead m r w a k =
    weighted_reward m r w a
    +ℤ int_sum (joint_observations m) (λ o. look_ahead m r (weights_after m w a o) (k - 1))
