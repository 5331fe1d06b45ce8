-- That look-ahead from any weights within the sum bound of a mode can be computed.
use Rattle.std.specs.Prelude.{ℕ, suc, ◌+◌, ◌^◌, ◌<◌, ◌≡◌, unsigned_abs}
use Rattle.dp_spec.specs.declared.span.Span.{Span}
use Rattle.dp_base.specs.Sums.{nat_sum}
use Rattle.dp_spec.specs.Model.{Model, joint_actions, joint_observations}
use Rattle.dp_spec.specs.Arithmetic.{Arithmetic}
use Rattle.dp_spec.specs.Quantities.{look_ahead_in, mdp_table_in, weights_after_in}
use Rattle.dp_spec.specs.Calls.{Calls}
use Rattle.dp_spec.specs.Sizes.{AreWeights, reward_size}

-- the magnitudes of all parts of weights against the table together
unfoldable pub weighted_table_size : Arithmetic → Model → ℕ → (ℕ → Span) → ℕ
weighted_table_size A m r ws = nat_sum m.states (λ s. unsigned_abs (A.tail (ws s) (mdp_table_in A m r s)))

-- the magnitudes of the look-aheads after joint action a together
unfoldable pub next_look_size : Arithmetic → Model → ℕ → (ℕ → Span) → ℕ → ℕ → ℕ
next_look_size A m r ws a k =
    nat_sum (joint_observations m) (λ o. unsigned_abs (look_ahead_in A m r (weights_after_in A m ws a o) k))

-- Look-ahead from any weights of a time up to the horizon h; its weights and rewards are those of CanUpdateWeights
-- and CanReward.
pub record CanLookAhead (A : Arithmetic) (C : Calls) (m : Model) (h : ℕ) : Type 0 where
  -- the calls for weights against the table, and their sum in any order
  pub tail : (t r s : ℕ) (ws : ℕ → Span) → t + r ≡ h → AreWeights A.is_exact m t ws → s < m.states
      → C.Tail (ws s) (mdp_table_in A m r s)
  pub tails : (t r : ℕ) (ws : ℕ → Span) → t + r ≡ h → AreWeights A.is_exact m t ws
      → weighted_table_size A m r ws < 2 ^ 127
  -- the reward now and the look-aheads after it can be added, in any order
  pub looks : (t r k : ℕ) (ws : ℕ → Span) (a : ℕ) → t + suc r ≡ h → AreWeights A.is_exact m t ws → a < joint_actions m
      → reward_size A m r ws a + next_look_size A m r ws a k < 2 ^ 127
