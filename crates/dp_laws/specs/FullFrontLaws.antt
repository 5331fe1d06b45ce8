-- Full fronts: those at whose stage no step is left.
use Rattle.std.specs.Prelude.{ℕ, ◌<◌, ◌≡◌, List}
use Rattle.dp_spec.specs.Model.{Model}
use Rattle.dp_spec.specs.PolicyTree.{IsPolicyOf, PolicyTree}
use Rattle.dp_spec.specs.Value.{policy_value}
use Rattle.dp_spec.specs.JointHistory.{earned_reward}
use Rattle.dp_spec.specs.Front.{Front, fixed_joint_action}
use Rattle.dp_spec.specs.Keeping.{KeepsFront}
use Rattle.dp_spec.specs.FullPolicy.{full_policy}
use Rattle.dp_spec.specs.WellFormed.{IsFront}

-- what a well-formed full front fixes is a joint policy, and keeps the front
abbrev pub FullPolicyKeepsItsFront : Type 0
FullPolicyKeepsItsFront =
    (m : Model) (h : ℕ) (F : Front) → IsFront m h F → F.stage ≡ h →
    IsPolicyOf m h (full_policy m F) × KeepsFront m F (full_policy m F)

-- two joint policies of some steps that keep one full front are equal
abbrev pub FullFrontHasOnePolicy : Type 0
FullFrontHasOnePolicy =
    (m : Model) (h : ℕ) (F : Front) (ps qs : List PolicyTree) → 0 < h → F.stage ≡ h →
    IsPolicyOf m h ps → IsPolicyOf m h qs → KeepsFront m F ps → KeepsFront m F qs → ps ≡ qs

-- the value of a joint policy that keeps a full front is what the front earns
abbrev pub FullFrontEarnsTheValue : Type 0
FullFrontEarnsTheValue =
    (m : Model) (h : ℕ) (F : Front) (qs : List PolicyTree) → F.stage ≡ h → KeepsFront m F qs →
    policy_value m h qs ≡ earned_reward m (fixed_joint_action m F) h h
