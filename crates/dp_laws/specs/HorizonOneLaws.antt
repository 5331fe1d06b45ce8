-- At a horizon of one step the bound of the root front is the greatest value of a constant joint action.
use Rattle.std.specs.Prelude.{ℕ, ◌<◌, ◌≡◌}
use Rattle.dp_base.specs.Sums.{greatest, numbers_below}
use Rattle.dp_spec.specs.Model.{Model, IsModel, joint_actions}
use Rattle.dp_spec.specs.PolicyTree.{IsPolicyOf}
use Rattle.dp_spec.specs.ConstantPolicy.{constant_policy}
use Rattle.dp_spec.specs.Value.{policy_value}
use Rattle.dp_spec.specs.Bound.{bound_of}
use Rattle.dp_spec.specs.Steps.{root_front}

-- a constant policy is a joint policy of the model
abbrev pub ConstantPolicyIsPolicy : Type 0
ConstantPolicyIsPolicy =
    (m : Model) → IsModel m → (h a : ℕ) → a < joint_actions m → IsPolicyOf m h (constant_policy m h a)

-- at one step the bound of the root front, with any look, is the greatest value of a constant policy
abbrev pub RootBoundIsBestConstantAction : Type 0
RootBoundIsBestConstantAction =
    (m : Model) → IsModel m → (look : ℕ) →
    bound_of m 1 (root_front m) look ≡
    greatest (λ a. policy_value m 1 (constant_policy m 1 a)) (numbers_below (joint_actions m))
