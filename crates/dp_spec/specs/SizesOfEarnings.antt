-- Magnitudes of what is earned along joint histories, and that the worth of a joint policy can be added up.
use Rattle.std.specs.Prelude.{ℕ, zero, suc, ◌+◌, ◌-◌, ◌^◌, ◌<◌, ◌≡◌, List}
use Rattle.dp_spec.specs.declared.span.Span.{Span}
use Rattle.dp_base.specs.Sums.{nat_sum}
use Rattle.dp_spec.specs.Model.{Model, joint_actions, joint_observations}
use Rattle.dp_spec.specs.PolicyTree.{IsPolicyOf, PolicyTree}
use Rattle.dp_spec.specs.Value.{joint_root_action, trees_after}
use Rattle.dp_spec.specs.JointHistory.{IsJointHistory, nat_history_sum}
use Rattle.dp_spec.specs.Arithmetic.{Arithmetic}
use Rattle.dp_spec.specs.Quantities.{history_weight_in, weights_after_in}
use Rattle.dp_spec.specs.Sizes.{AreWeights, reward_size}

-- the joint actions that act gives before time t exist
abbrev pub IsActing : Model → ℕ → (List ℕ → ℕ) → Type 0
IsActing m t act = (i : ℕ) (H : List ℕ) → i < t → IsJointHistory (joint_observations m) i H → act H < joint_actions m

-- the magnitudes of all parts of what is earned before time f together, of a horizon of h steps
abbrev pub earned_size : Arithmetic → Model → (List ℕ → ℕ) → ℕ → ℕ → ℕ
earned_size A m act h zero = 0
earned_size A m act h (suc f) =
    earned_size A m act h f
    + nat_history_sum (joint_observations m) f (λ H. reward_size A m (h - suc f) (history_weight_in A m act H)
    (act H))

-- the magnitudes of all parts of the worth of a joint policy of r steps together, from weights ws
abbrev pub worth_size : Arithmetic → Model → ℕ → (ℕ → Span) → List PolicyTree → ℕ
worth_size A m zero ws qs = 0
worth_size A m (suc r) ws qs =
    reward_size A m r ws (joint_root_action m qs)
    + nat_sum (joint_observations m) (λ o.
    worth_size A m r (weights_after_in A m ws (joint_root_action m qs) o) (trees_after m qs o))

-- The worth of a joint policy for the steps that are left can be added up from any weights, in any order.
pub record CanEvaluate (A : Arithmetic) (m : Model) (h : ℕ) : Type 0 where
  pub add : (t r : ℕ) (ws : ℕ → Span) (qs : List PolicyTree) → t + r ≡ h → AreWeights A.is_exact m t ws
      → IsPolicyOf m r qs → worth_size A m r ws qs < 2 ^ 127
