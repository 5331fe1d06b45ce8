-- Rewards from weights that are held in a list.
use Rattle.std.specs.Prelude.{ℕ, suc, ◌+◌, ◌≡◌}
use Rattle.dp_spec.specs.declared.span.Span.{Span}
use Rattle.dp_spec.specs.Arithmetic.{Arithmetic}
use Rattle.dp_spec.specs.Calls.{Calls}
use Rattle.dp_spec.specs.Model.{Model, joint_observations, obs_at, reward_at, trans_at}
use Rattle.dp_spec.specs.Quantities.{span_sum}
use Rattle.dp_spec.specs.Sizes.{AreWeights, CanUpdateWeights, CanReward}

-- they are weights of a time after which r steps are left besides the next
pub record IsRewardable (A : Arithmetic) (C : Calls) (m : Model) (r : ℕ) (ws : ℕ → Span) : Type 0 where
  pub horizon : ℕ
  pub update : CanUpdateWeights A C m horizon
  pub can : CanReward A C m horizon
  pub time : ℕ
  pub left : time + suc r ≡ horizon
  pub weights : AreWeights A.is_exact m time ws

-- the part of a reward that comes from state s, of weight w, where state t and joint observation o follow
abbrev pub reward_part : Arithmetic → Model → ℕ → Span → ℕ → ℕ → ℕ → ℕ → Span
reward_part A m r w a s t o = A.gain (A.chance w (trans_at m a s t) (obs_at m a t o)) (reward_at m a s t o) r

-- the same over all joint observations
abbrev pub reward_arriving : Arithmetic → Model → ℕ → Span → ℕ → ℕ → ℕ → Span
reward_arriving A m r w a s t = span_sum (joint_observations m) (reward_part A m r w a s t)

-- and over all next states
abbrev pub reward_from : Arithmetic → Model → ℕ → Span → ℕ → ℕ → Span
reward_from A m r w a s = span_sum m.states (reward_arriving A m r w a s)
