-- The value of the underlying Markov decision process, whose agents all see the state (the basis of Q_MDP; Oliehoek
-- and Amato, chapter 4).
use Rattle.std.specs.Prelude.{ℕ, zero, suc, ◌*◌, ◌^◌, ℤ, pos, ◌+ℤ◌, ◌*ℤ◌}
use Rattle.dp_base.specs.Sums.{int_sum, greatest, numbers_below}
use Rattle.dp_spec.specs.Model.{Model, joint_observations, joint_actions, trans_at, obs_at, reward_at, step_scale}

-- the greatest value over the r steps that are left, from state s
abbrev pub mdp_table : Model → ℕ → ℕ → ℤ
mdp_table m zero s = pos 0
mdp_table m (suc r) s =
    greatest (λ a. int_sum m.states (λ t. int_sum (joint_observations m) (λ o.
    pos (trans_at m a s t * obs_at m a t o) *ℤ (reward_at m a s t o *ℤ pos (m.scales.discount * step_scale m ^ r))))
    +ℤ int_sum m.states (λ t. pos (trans_at m a s t * m.scales.obs * m.scales.gain) *ℤ mdp_table m r t))
    (numbers_below (joint_actions m))
