-- Weights within the sum bound of a mode: which calls and sums they have to allow, for the weights of the next time
-- and for rewards.
use Rattle.std.specs.Prelude.{Bool, true, false, ℕ, suc, ◌+◌, ◌*◌, ◌^◌, ◌<◌, ◌≤◌, ◌≡◌, pos, ◌≤ℤ◌}
use Rattle.dp_spec.specs.declared.span.Span.{Span}
use Rattle.dp_base.specs.Sums.{nat_sum}
use Rattle.dp_spec.specs.Model.{Model, joint_actions, joint_observations, obs_at, reward_at, start_at, step_scale}
use Rattle.dp_spec.specs.Model.{trans_at}
use Rattle.dp_spec.specs.Arithmetic.{Arithmetic}
use Rattle.dp_spec.specs.Quantities.{weights_after_in}
use Rattle.dp_spec.specs.Calls.{Calls, IsPoint, size}

-- What weights over the states may sum to at time t: in exact mode the weight 1 at that time; in outward mode 2^63,
-- and what t roundings may add.
abbrev pub weight_limit : Bool → Model → ℕ → ℕ
weight_limit true m t = m.scales.start * step_scale m ^ t
weight_limit false m t = 2 ^ 63 + t * (m.states * m.states)

-- spans of weights over the states at time t, from 0 and within the sum bound, in exact mode one number each
pub record AreWeights (e : Bool) (m : Model) (t : ℕ) (ws : ℕ → Span) : Type 0 where
  pub from : (s : ℕ) → s < m.states → pos 0 ≤ℤ (ws s).low
  pub order : (s : ℕ) → s < m.states → (ws s).low ≤ℤ (ws s).high
  pub points : e ≡ true → (s : ℕ) → s < m.states → IsPoint (ws s)
  pub limit : nat_sum m.states (λ s. size (ws s)) ≤ weight_limit e m t

-- joint action a leads from state s to state t, where joint observation o is seen
pub record IsStep (m : Model) (a s t o : ℕ) : Type 0 where
  pub action : a < joint_actions m
  pub state : s < m.states
  pub next : t < m.states
  pub seen : o < joint_observations m

-- The weights of the start, and from any weights of a time before the horizon h those of the next time.
pub record CanUpdateWeights (A : Arithmetic) (C : Calls) (m : Model) (h : ℕ) : Type 0 where
  -- the calls for the weights of the start, which are weights of time 0
  pub start : (s : ℕ) → s < m.states → C.Start (start_at m s)
  pub started : AreWeights A.is_exact m 0 (λ s. A.start (start_at m s))
  -- the calls for each part of a next weight
  pub chance : (t : ℕ) (ws : ℕ → Span) (a s u o : ℕ) → t < h → AreWeights A.is_exact m t ws → IsStep m a s u o
      → C.Chance (ws s) (trans_at m a s u) (obs_at m a u o)
  pub later : (t : ℕ) (ws : ℕ → Span) (a s u o : ℕ) → t < h → AreWeights A.is_exact m t ws → IsStep m a s u o
      → C.Later (A.chance (ws s) (trans_at m a s u) (obs_at m a u o))
  -- the parts of a next weight can be added, in any order
  pub add : (t : ℕ) (ws : ℕ → Span) (a u o : ℕ) → t < h → AreWeights A.is_exact m t ws → a < joint_actions m
      → u < m.states → o < joint_observations m →
      nat_sum m.states (λ s. size (A.later (A.chance (ws s) (trans_at m a s u) (obs_at m a u o)))) < 2 ^ 127
  -- the next weights are weights of the next time
  pub updated : (t : ℕ) (ws : ℕ → Span) (a o : ℕ) → t < h → AreWeights A.is_exact m t ws → a < joint_actions m
      → o < joint_observations m → AreWeights A.is_exact m (suc t) (weights_after_in A m ws a o)

-- the magnitudes of all parts of the reward of a joint action together, where r steps are left after this one
unfoldable pub reward_size : Arithmetic → Model → ℕ → (ℕ → Span) → ℕ → ℕ
reward_size A m r ws a =
    nat_sum m.states (λ s. nat_sum m.states (λ t. nat_sum (joint_observations m) (λ o.
    size (A.gain (A.chance (ws s) (trans_at m a s t) (obs_at m a t o)) (reward_at m a s t o) r))))

-- The reward of a joint action from any weights of a time before the horizon h.
pub record CanReward (A : Arithmetic) (C : Calls) (m : Model) (h : ℕ) : Type 0 where
  -- the call for each part, whose weight is that of an update
  pub gain : (t r : ℕ) (ws : ℕ → Span) (a s u o : ℕ) → t + suc r ≡ h → AreWeights A.is_exact m t ws → IsStep m a s u o
      → C.Gain (A.chance (ws s) (trans_at m a s u) (obs_at m a u o)) (reward_at m a s u o) r
  -- the parts can be added, in any order
  pub add : (t r : ℕ) (ws : ℕ → Span) (a : ℕ) → t + suc r ≡ h → AreWeights A.is_exact m t ws → a < joint_actions m
      → reward_size A m r ws a < 2 ^ 127
