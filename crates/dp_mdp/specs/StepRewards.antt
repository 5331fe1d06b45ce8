-- The reward of one step from one state, in an arithmetic.
use Rattle.std.specs.Prelude.{ℕ, ◌^◌, ◌<◌}
use Rattle.dp_spec.specs.declared.span.Span.{Span}
use Rattle.dp_base.specs.Sums.{nat_sum}
use Rattle.dp_spec.specs.Model.{Model, joint_observations, obs_at, reward_at, trans_at}
use Rattle.dp_spec.specs.Arithmetic.{Arithmetic}
use Rattle.dp_spec.specs.Quantities.{span_sum}
use Rattle.dp_spec.specs.Calls.{Calls, size}
use Rattle.dp_spec.specs.Sizes.{IsStep}

-- the part of next state t and joint observation o
abbrev pub reward_part : Arithmetic → Model → ℕ → Span → ℕ → ℕ → ℕ → ℕ → Span
reward_part A m r w a s t o = A.gain (A.chance w (trans_at m a s t) (obs_at m a t o)) (reward_at m a s t o) r

-- the parts of next state t
abbrev pub arrival_reward : Arithmetic → Model → ℕ → Span → ℕ → ℕ → ℕ → Span
arrival_reward A m r w a s t = span_sum (joint_observations m) (reward_part A m r w a s t)

-- the reward of joint action a from weight w of state s, where r steps are left after this one
unfoldable pub state_reward : Arithmetic → Model → ℕ → Span → ℕ → ℕ → Span
state_reward A m r w a s = span_sum m.states (arrival_reward A m r w a s)

-- each call for it is allowed, and its parts can be added in any order
pub record AllowsReward (A : Arithmetic) (C : Calls) (m : Model) (r : ℕ) (w : Span) (a s : ℕ) : Type 0 where
  pub chance : (t o : ℕ) → IsStep m a s t o → C.Chance w (trans_at m a s t) (obs_at m a t o)
  pub gain : (t o : ℕ) → IsStep m a s t o
      → C.Gain (A.chance w (trans_at m a s t) (obs_at m a t o)) (reward_at m a s t o) r
  pub add : nat_sum m.states (λ t. nat_sum (joint_observations m) (λ o. size (reward_part A m r w a s t o)))
      < 2 ^ 127
