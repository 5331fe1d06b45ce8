-- Weights held in a list, and that an arithmetic can go on from them.
use Rattle.std.specs.Prelude.{ℕ, ◌+◌, ◌*◌, ◌≡◌, ◌<◌, true, List, length, ℤ, pos, ◌*ℤ◌, get_or}
use Rattle.std.specs.Prelude.{slice_index_or, suc}
use Rattle.dp_spec.specs.declared.span.Span.{Span}
use Rattle.dp_spec.specs.Model.{Model, obs_at, trans_at}
use Rattle.dp_spec.specs.Arithmetic.{Arithmetic, point}
use Rattle.dp_spec.specs.Calls.{Calls}
use Rattle.dp_spec.specs.Quantities.{action_look_ahead_in, look_ahead_in}
use Rattle.dp_spec.specs.Sizes.{AreWeights, CanUpdateWeights, CanReward}
use Rattle.dp_spec.specs.SizesOfLookAhead.{CanLookAhead}
use Rattle.dp_spec.specs.Zeros.{KeepsZero}
use Rattle.dp_mdp.specs.StepRewards.{state_reward}

-- the weight of each state
abbrev pub weights_of : List Span → ℕ → Span
weights_of ws s = slice_index_or ws s (point (pos 0))

-- in exact numbers k times the weights have k times the look-ahead
abbrev pub ScalesLook : Arithmetic → Model → Type 0
ScalesLook A m =
    (r look k : ℕ) (w : ℕ → ℕ) (ws vs : ℕ → Span) → ((s : ℕ) → s < m.states → ws s ≡ point (pos (w s)))
    → ((s : ℕ) → s < m.states → vs s ≡ point (pos (k * w s)))
    → look_ahead_in A m r vs look ≡ pos k *ℤ look_ahead_in A m r ws look

-- the same of the look-ahead of each joint action
abbrev pub ScalesActions : Arithmetic → Model → Type 0
ScalesActions A m =
    (r look k a : ℕ) (w : ℕ → ℕ) (ws vs : ℕ → Span) → ((s : ℕ) → s < m.states → ws s ≡ point (pos (w s)))
    → ((s : ℕ) → s < m.states → vs s ≡ point (pos (k * w s)))
    → action_look_ahead_in A m r vs a look ≡ pos k *ℤ action_look_ahead_in A m r ws a look

-- and w earns w times what the weight 1 earns in the last step
abbrev pub WeighsRewards : Arithmetic → Model → Type 0
WeighsRewards A m =
    (w : Span) (a s : ℕ) → (state_reward A m 0 w a s).high ≡ w.high *ℤ (state_reward A m 0 A.one a s).high

-- they are weights of the time at which r steps are left, for which the arithmetic can look ahead
pub record IsLooking (A : Arithmetic) (C : Calls) (m : Model) (r : ℕ) (ws : List Span) : Type 0 where
  pub zero : KeepsZero A
  pub scales : A.is_exact ≡ true → ScalesLook A m × ScalesActions A m
  pub weighs : A.is_exact ≡ true → WeighsRewards A m
  pub horizon : ℕ
  pub push : CanUpdateWeights A C m horizon
  pub reward : CanReward A C m horizon
  pub look : CanLookAhead A C m horizon
  pub time : ℕ
  pub left : time + r ≡ horizon
  pub one_each : length ws ≡ m.states
  pub weights : AreWeights A.is_exact m time (weights_of ws)

-- they are weights of a time before the horizon
abbrev pub IsBeforeHorizon : Arithmetic → Calls → Model → List Span → Type 0
IsBeforeHorizon A C m ws = (r : ℕ) × IsLooking A C m (suc r) ws

-- no state has a weight
abbrev pub AreZero : List Span → Type 0
AreZero ws = (s : ℕ) → s < length ws → (slice_index_or ws s (point (pos 0))).high ≡ pos 0

-- the part of the next weight of state t that comes from state s
abbrev pub updated_part : Arithmetic → Model → List Span → ℕ → ℕ → ℕ → ℕ → Span
updated_part A m ws a o t s = A.later (A.chance (weights_of ws s) (trans_at m a s t) (obs_at m a t o))

-- the weight of state s times its reward
abbrev pub weighed_part : List ℤ → List Span → ℕ → ℤ
weighed_part rewards ws s = (weights_of ws s).high *ℤ get_or rewards s (pos 0)
