-- The weights of joint rows held in a list, and what the worth of a shared policy asks of an arithmetic.
use Rattle.std.specs.Prelude.{ℕ, ◌+◌, ◌*◌, ◌<◌, ◌≤◌, ◌≡◌, cond, ◌==◌, List, length, pos, slice_index_or}
use Rattle.dp_spec.specs.declared.span.Span.{Span}
use Rattle.dp_spec.specs.Model.{IsModel, Model, joint_observations}
use Rattle.dp_spec.specs.Arithmetic.{Arithmetic, point}
use Rattle.dp_spec.specs.Calls.{Calls}
use Rattle.dp_spec.specs.Quantities.{span_sum, weights_after_in}
use Rattle.dp_spec.specs.SharedPolicy.{IsSharedOf, SharedPolicy}
use Rattle.dp_spec.specs.SharedWorth.{joint_row_action, joint_row_count, next_joint_row, row_weight_in}
use Rattle.dp_spec.specs.Sizes.{CanUpdateWeights, CanReward}
use Rattle.dp_spec.specs.SizesOfRows.{CanShare}
use Rattle.dp_spec.specs.Zeros.{KeepsZero}

-- the weight of joint row j and state s
abbrev pub weight_in : ℕ → List Span → ℕ → ℕ → Span
weight_in states ws j s = slice_index_or ws (j * states + s) (point (pos 0))

-- a list holds the weights of the joint rows of stage t
pub record AreRowWeights (A : Arithmetic) (m : Model) (p : SharedPolicy) (t : ℕ) (ws : List Span) : Type 0 where
  pub room : joint_row_count p t * m.states ≤ length ws
  pub are : (j s : ℕ) → j < joint_row_count p t → s < m.states
      → weight_in m.states ws j s ≡ row_weight_in A m p t j s

-- the worth of a shared policy can be computed in an arithmetic
pub record IsSharable (A : Arithmetic) (C : Calls) (m : Model) (h : ℕ) (p : SharedPolicy) : Type 0 where
  pub model : IsModel m
  pub some_step : 0 < h
  pub shared : IsSharedOf m h p
  pub zeros : KeepsZero A
  pub update : CanUpdateWeights A C m h
  pub reward : CanReward A C m h
  pub share : CanShare A m h

-- what joint row i of stage t and joint observation o give to joint row j of the next stage and state s
unfoldable pub row_part : Arithmetic → Model → SharedPolicy → ℕ → ℕ → ℕ → ℕ → ℕ → Span
row_part A m p t j s i o =
    cond (next_joint_row m p t i o == j)
    (weights_after_in A m (row_weight_in A m p t i) (joint_row_action m p t i) o s) (point (pos 0))

-- what joint row i gives, over all joint observations
unfoldable pub row_gives : Arithmetic → Model → SharedPolicy → ℕ → ℕ → ℕ → ℕ → Span
row_gives A m p t j s i = span_sum (joint_observations m) (row_part A m p t j s i)
