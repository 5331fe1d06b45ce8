-- What an advance asks of an arithmetic, and the weights that it gives.
use Rattle.std.specs.Prelude.{ℕ, zero, suc, ◌+◌, ◌^◌, ◌<◌, ◌≡◌, List, [], ◌++◌, map, length, get_or, Option}
use Rattle.std.specs.Prelude.{None, Some}
use Rattle.std.specs.List.{range_with_len}
use Rattle.dp_spec.specs.declared.span.Span.{Span}
use Rattle.dp_spec.specs.Arithmetic.{Arithmetic}
use Rattle.dp_spec.specs.Calls.{Calls}
use Rattle.dp_spec.specs.Front.{class_counts, fixed_joint_action}
use Rattle.dp_spec.specs.JointNumbers.{product}
use Rattle.dp_spec.specs.Model.{IsModel, Model}
use Rattle.dp_spec.specs.Quantities.{class_weight_in, earned_reward_in}
use Rattle.dp_spec.specs.Sizes.{AreWeights, CanUpdateWeights, CanReward}
use Rattle.dp_spec.specs.SizesOfEarnings.{earned_size}
use Rattle.dp_spec.specs.SizesOfFronts.{class_reward_size}
use Rattle.dp_spec.specs.WellFormed.{IsFront}
use Rattle.dp_spec.specs.Zeros.{KeepsZero, nothing}
use Rattle.dp_spec.specs.ClassSteps.{chosen_joint_action, StepsByClass}
use Rattle.dp_cluster.specs.KeptFronts.{KeptFront, kept_weight}

-- the weights W of n joint classes, one after the other, each for so many states
abbrev pub weight_rows : (ℕ → ℕ → Span) → ℕ → ℕ → List Span
weight_rows W states zero = []
weight_rows W states (suc n) = weight_rows W states n ++ map (W n) (range_with_len 0 states)

-- The weights that are kept are those of the joint classes in the arithmetic, each joint class steps as the sum of
-- its joint histories, and every call and every sum of the step is allowed.
pub record IsAdvanceable (A : Arithmetic) (C : Calls) (m : Model) (k : KeptFront) : Type 0 where
  pub model : IsModel m
  pub zeros : KeepsZero A
  pub states : k.states ≡ m.states
  pub observations : k.observations ≡ m.observations
  pub front : IsFront m k.horizon k.front
  pub early : k.front.stage < k.horizon
  pub update : CanUpdateWeights A C m k.horizon
  pub reward : CanReward A C m k.horizon
  pub steps : StepsByClass A m k.front
  pub classes : (D : ℕ) → D < product (class_counts k.front.agents)
      → AreWeights A.is_exact m k.front.stage (class_weight_in A m k.front D)
  pub weights : (D s : ℕ) → D < product (class_counts k.front.agents) → s < m.states
      → kept_weight k D s ≡ class_weight_in A m k.front D s
  pub earned : k.earned ≡ earned_reward_in A m (fixed_joint_action m k.front) k.horizon k.front.stage
  pub room : (r : ℕ) → k.front.stage + suc r ≡ k.horizon
      → earned_size A m (fixed_joint_action m k.front) k.horizon k.front.stage + class_reward_size A m r k.front
      (chosen_joint_action m k.front)
      < 2 ^ 127

-- joint class D has no weight
abbrev pub IsWeightless : KeptFront → ℕ → Type 0
IsWeightless k D = (s : ℕ) → s < k.states → kept_weight k D s ≡ nothing

-- the joint action that is chosen for joint class D, or none where the joint class has no weight
abbrev pub IsLed : Model → KeptFront → ℕ → Option ℕ → Type 0
IsLed m k D None = IsWeightless k D
IsLed m k D (Some a) = (a ≡ chosen_joint_action m k.front D) × ¬ IsWeightless k D

-- one for each joint class
pub record AreLed (m : Model) (k : KeptFront) (actions : List (Option ℕ)) : Type 0 where
  pub one_each : length actions ≡ product (class_counts k.front.agents)
  pub are : (D : ℕ) → D < product (class_counts k.front.agents) → IsLed m k D (get_or actions D None)
