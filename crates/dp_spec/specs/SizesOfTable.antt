-- That the table of the Markov decision process can be computed.
use Rattle.std.specs.Prelude.{ℕ, ◌+◌, ◌^◌, ◌<◌, unsigned_abs}
use Rattle.dp_base.specs.Sums.{nat_sum}
use Rattle.dp_spec.specs.Model.{Model, joint_actions, joint_observations, obs_at, reward_at, trans_at}
use Rattle.dp_spec.specs.Arithmetic.{Arithmetic}
use Rattle.dp_spec.specs.Quantities.{mdp_table_in}
use Rattle.dp_spec.specs.Calls.{Calls, size}
use Rattle.dp_spec.specs.Sizes.{IsStep}

-- the magnitudes of all parts of the reward now together, from the weight 1 in state s, where r steps are left after
-- this one
unfoldable pub table_reward_size : Arithmetic → Model → ℕ → ℕ → ℕ → ℕ
table_reward_size A m r a s =
    nat_sum m.states (λ t. nat_sum (joint_observations m) (λ o.
    size (A.gain (A.chance A.one (trans_at m a s t) (obs_at m a t o)) (reward_at m a s t o) r)))

-- the magnitudes of all parts of the value after it together
unfoldable pub table_later_size : Arithmetic → Model → ℕ → ℕ → ℕ → ℕ
table_later_size A m r a s = nat_sum m.states (λ t. unsigned_abs (A.carry (mdp_table_in A m r t) (trans_at m a s t)))

-- The table of the Markov decision process up to a horizon of h steps.
pub record CanTabulate (A : Arithmetic) (C : Calls) (m : Model) (h : ℕ) : Type 0 where
  -- the calls for each part of the reward now
  pub chance : (a s t o : ℕ) → IsStep m a s t o → C.Chance A.one (trans_at m a s t) (obs_at m a t o)
  pub gain : (r a s t o : ℕ) → r < h → IsStep m a s t o
      → C.Gain (A.chance A.one (trans_at m a s t) (obs_at m a t o)) (reward_at m a s t o) r
  -- the call for each part of the value after it
  pub carry : (r a s t : ℕ) → r < h → a < joint_actions m → s < m.states → t < m.states
      → C.Carry (mdp_table_in A m r t) (trans_at m a s t)
  -- all parts can be added, in any order
  pub add : (r a s : ℕ) → r < h → a < joint_actions m → s < m.states
      → table_reward_size A m r a s + table_later_size A m r a s < 2 ^ 127
