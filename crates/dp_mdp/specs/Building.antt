-- What building the table in an arithmetic needs of it.
use Rattle.std.specs.Prelude.{ℕ, ◌+◌, ◌^◌, ◌<◌, ◌≡◌, ℤ, pos, ◌+ℤ◌, ◌*ℤ◌, ◌≤ℤ◌, List, [], length, get_or}
use Rattle.dp_spec.specs.declared.span.Span.{Span}
use Rattle.dp_base.specs.Sums.{int_sum}
use Rattle.dp_spec.specs.Model.{Model, joint_actions, trans_at}
use Rattle.dp_spec.specs.Arithmetic.{Arithmetic}
use Rattle.dp_spec.specs.Quantities.{mdp_table_in}
use Rattle.dp_spec.specs.Calls.{Calls}
use Rattle.dp_spec.specs.SizesOfTable.{CanTabulate, table_later_size, table_reward_size}
use Rattle.dp_mdp.specs.StepRewards.{AllowsReward, state_reward}
use Rattle.dp_spec.specs.Zeros.{KeepsZero}

-- the value after joint action a in state s, where r steps are left after it
abbrev pub later_value : Arithmetic → Model → ℕ → ℕ → ℕ → ℤ
later_value A m r a s = int_sum m.states (λ t. A.carry (mdp_table_in A m r t) (trans_at m a s t))

-- the value of joint action a in state s
abbrev pub action_value : Arithmetic → Model → ℕ → ℕ → ℕ → ℤ
action_value A m r s a = (state_reward A m r A.one a s).high +ℤ later_value A m r a s

-- With each step that is left after this one a gain is k times what it was: in exact mode k is the step scale, in
-- outward mode 1.
pub record IsTabulating (A : Arithmetic) (C : Calls) (m : Model) (h k : ℕ) : Type 0 where
  pub can : CanTabulate A C m h
  pub zero : KeepsZero A
  pub grows : (w : Span) (r : ℤ) (rest : ℕ) → (A.gain w r rest).high ≡ (A.gain w r 0).high *ℤ pos (k ^ rest)
  pub powers : k ^ h < 2 ^ 127
  pub factor : 0 < k

-- the reward of the last step of joint action a, for each state
pub record IsLastReward (A : Arithmetic) (m : Model) (a : ℕ) (row : List ℤ) : Type 0 where
  pub one_each : length row ≡ m.states
  pub values : (s : ℕ) → s < m.states → get_or row s (pos 0) ≡ (state_reward A m 0 A.one a s).high

-- and for each joint action
pub record AreLastRewards (A : Arithmetic) (m : Model) (rows : List (List ℤ)) : Type 0 where
  pub one_each : length rows ≡ joint_actions m
  pub values : (a : ℕ) → a < joint_actions m → IsLastReward A m a (get_or rows a [])

-- each reward where r steps are left after the step is p times that of the last step
pub record IsPower (A : Arithmetic) (m : Model) (r : ℕ) (p : ℤ) : Type 0 where
  pub some : pos 1 ≤ℤ p
  pub grows : (w : Span) (a s : ℕ) → (state_reward A m r w a s).high ≡ (state_reward A m 0 w a s).high *ℤ p

-- it can be computed
pub record AllowsLastRewards (A : Arithmetic) (C : Calls) (m : Model) : Type 0 where
  pub zero : KeepsZero A
  pub each : (a s : ℕ) → a < joint_actions m → s < m.states → AllowsReward A C m 0 A.one a s

-- The row of r + 1 steps can be computed from that of r steps: a reward is so many times that of the last step.
pub record AllowsRow (A : Arithmetic) (C : Calls) (m : Model) (r : ℕ) (power : ℤ) : Type 0 where
  pub zero : KeepsZero A
  pub reward : IsPower A m r power
  pub carry : (a s t : ℕ) → a < joint_actions m → s < m.states → t < m.states
      → C.Carry (mdp_table_in A m r t) (trans_at m a s t)
  pub add : (a s : ℕ) → a < joint_actions m → s < m.states
      → table_reward_size A m r a s + table_later_size A m r a s < 2 ^ 127
