-- The value of a joint policy, which is defined backwards, computed forwards.
use Rattle.std.specs.Prelude.{ℕ, ◌+◌, ◌≡◌, pos, ◌+ℤ◌, ◌*ℤ◌, List}
use Rattle.dp_base.specs.Sums.{int_sum}
use Rattle.dp_spec.specs.Model.{Model, joint_observations}
use Rattle.dp_spec.specs.PolicyTree.{PolicyTree}
use Rattle.dp_spec.specs.Value.{backward_value, joint_root_action, policy_value}
use Rattle.dp_spec.specs.JointHistory.{earned_reward, history_weight, int_history_sum, trees_after_history}
use Rattle.dp_spec.specs.Front.{Front, fixed_joint_action}
use Rattle.dp_spec.specs.Keeping.{KeepsFront}

-- The value of a joint policy is what its own joint actions earn.
abbrev pub ValueIsEarned : Type 0
ValueIsEarned =
    (m : Model) (h : ℕ) (qs : List PolicyTree) →
    policy_value m h qs ≡ earned_reward m (λ H. joint_root_action m (trees_after_history m qs H)) h h

-- The value of a joint policy that keeps a front is what is earned before the front's stage, and the weighted values
-- of what remains over the other r steps.
abbrev pub ValueIsEarnedAndRemaining : Type 0
ValueIsEarnedAndRemaining =
    (m : Model) (h r : ℕ) (F : Front) (qs : List PolicyTree) → F.stage + r ≡ h → KeepsFront m F qs →
    policy_value m h qs ≡ earned_reward m (fixed_joint_action m F) h F.stage
    +ℤ int_history_sum (joint_observations m) F.stage (λ H. int_sum m.states (λ s.
    pos (history_weight m (fixed_joint_action m F) H s) *ℤ backward_value m r s (trees_after_history m qs H)))
