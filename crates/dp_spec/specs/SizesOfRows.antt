-- That the worth of a shared policy can be computed: the weights of its joint rows, and what they earn.
use Rattle.std.specs.Prelude.{ℕ, zero, suc, ◌+◌, ◌-◌, ◌^◌, ◌<◌}
use Rattle.dp_base.specs.Sums.{nat_sum}
use Rattle.dp_spec.specs.Model.{Model, joint_observations}
use Rattle.dp_spec.specs.Arithmetic.{Arithmetic}
use Rattle.dp_spec.specs.Quantities.{weights_after_in}
use Rattle.dp_spec.specs.Calls.{size}
use Rattle.dp_spec.specs.Sizes.{AreWeights, reward_size}
use Rattle.dp_spec.specs.SharedPolicy.{IsSharedOf, SharedPolicy}
use Rattle.dp_spec.specs.SharedWorth.{joint_row_action, joint_row_count, row_weight_in}

-- the magnitudes of all weights together after each joint row of stage t and each joint observation
unfoldable pub rows_update_size : Arithmetic → Model → SharedPolicy → ℕ → ℕ
rows_update_size A m p t =
    nat_sum (joint_row_count p t) (λ j. nat_sum (joint_observations m) (λ o. nat_sum m.states (λ s.
    size (weights_after_in A m (row_weight_in A m p t j) (joint_row_action m p t j) o s))))

-- the magnitudes of all parts of what the joint rows of the stages before f earn together, of a horizon of h steps
abbrev pub rows_earn_size : Arithmetic → Model → SharedPolicy → ℕ → ℕ → ℕ
rows_earn_size A m p h zero = 0
rows_earn_size A m p h (suc f) =
    rows_earn_size A m p h f
    + nat_sum (joint_row_count p f) (λ j. reward_size A m (h - suc f) (row_weight_in A m p f j)
    (joint_row_action m p f j))

-- The worth of a shared policy of h steps can be computed, stage by stage.
pub record CanShare (A : Arithmetic) (m : Model) (h : ℕ) : Type 0 where
  -- the weights of a joint row are weights of its stage
  pub weights : (p : SharedPolicy) (t j : ℕ) → IsSharedOf m h p → t < h → j < joint_row_count p t
      → AreWeights A.is_exact m t (row_weight_in A m p t j)
  -- all next weights of a stage can be added to those of the joint rows of the next stage, in any order
  pub update : (p : SharedPolicy) (t : ℕ) → IsSharedOf m h p → t < h → rows_update_size A m p t < 2 ^ 127
  -- what the joint rows earn can be added up, in any order
  pub earned : (p : SharedPolicy) → IsSharedOf m h p → rows_earn_size A m p h h < 2 ^ 127
