-- The value of a joint policy that keeps a front.
use Rattle.std.proofs.Common.{◌≡◌, ℕ, ◌+◌, pos, ◌+ℤ◌, ◌*ℤ◌, List, arith}
use Rattle.dp_laws.proofs.ForwardValue.{forward_is_backward}
use Rattle.dp_laws.proofs.KeptActions.{kept_joint_action}
use Rattle.dp_laws.proofs.EarnedValue.{all_is_earned}
use Rattle.dp_spec.specs.Front.{Front, fixed_joint_action}
use Rattle.dp_spec.specs.JointHistory.{earned_reward, history_weight, int_history_sum, trees_after_history}
use Rattle.dp_spec.specs.Keeping.{KeepsFront}
use Rattle.dp_spec.specs.Model.{Model, joint_observations}
use Rattle.dp_spec.specs.PolicyTree.{PolicyTree}
use Rattle.dp_base.specs.Sums.{int_sum}
use Rattle.dp_spec.specs.Value.{backward_value, policy_value}

-- the value is what is earned before the front's stage, and the weights against what remains
pub value_at_front : (m : Model) (h r : ℕ) (F : Front) (qs : List PolicyTree) → F.stage + r ≡ h
    → KeepsFront m F qs →
    policy_value m h qs ≡ earned_reward m (fixed_joint_action m F) h F.stage
    +ℤ int_history_sum (joint_observations m) F.stage (λ H. int_sum m.states
    (λ s. pos (history_weight m (fixed_joint_action m F) H s) *ℤ backward_value m r s
    (trees_after_history m qs H)))
value_at_front m h r F qs e keeps = forward_is_backward m (fixed_joint_action m F) qs h F.stage r e
    (kept_joint_action m F qs keeps)

-- at a full front all is earned
pub value_at_full_front : (m : Model) (h : ℕ) (F : Front) (qs : List PolicyTree) → F.stage ≡ h
    → KeepsFront m F qs
    → policy_value m h qs ≡ earned_reward m (fixed_joint_action m F) h h
value_at_full_front m h F qs e keeps = all_is_earned m (fixed_joint_action m F) qs h
    (λ t H p q. kept_joint_action m F qs keeps t H (omega arith) q)
