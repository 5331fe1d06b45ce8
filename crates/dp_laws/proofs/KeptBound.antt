-- No joint policy that keeps a front is worth more than its bound.
use Rattle.std.proofs.Common.{◌≡◌, ℕ, zero, suc, ◌+◌, ℤ, pos, ◌+ℤ◌, ◌≤ℤ◌, List, refl, ◌∙◌, subst, arith}
use Rattle.std.proofs.lemmas.Int.{ints}
use Rattle.dp_laws.proofs.OneStep.{weighted_zeros}
use Rattle.dp_laws.proofs.ForwardValue.{forward_is_backward}
use Rattle.dp_laws.proofs.HistorySums.{int_history_sum_ext, int_history_sum_zero}
use Rattle.dp_laws.proofs.Keeping.{follows_of_keeps}
use Rattle.dp_base.proofs.Ring.{zle_trans, zle_of}
use Rattle.dp_laws.proofs.FollowedBound.{following_policy_le_bound, follows_fixed}
use Rattle.dp_laws.specs.Following.{FollowsAgentFronts}
use Rattle.dp_spec.specs.Bound.{bound_of}
use Rattle.dp_spec.specs.Front.{Front, fixed_joint_action}
use Rattle.dp_spec.specs.JointHistory.{history_weight}
use Rattle.dp_spec.specs.Keeping.{KeepsFront}
use Rattle.dp_spec.specs.Model.{IsModel, Model, joint_observations}
use Rattle.dp_spec.specs.PolicyTree.{IsPolicyOf, PolicyTree}
use Rattle.dp_spec.specs.Value.{policy_value}
use Rattle.dp_spec.specs.WellFormed.{IsFront}

-- nothing added
add_none_le : (a b : ℤ) → b ≡ pos 0 → (a +ℤ b) ≤ℤ a
add_none_le a b e = omega (arith, ints)

-- with trees at the classes of the front
value_le_bound : (m : Model) → IsModel m
    → (look : ℕ) (F : Front) (r : ℕ) (qs : List PolicyTree) (uss : List (ℕ → PolicyTree))
    → FollowsAgentFronts F.stage r m.actions m.observations F.agents qs uss
    → policy_value m (F.stage + r) qs ≤ℤ bound_of m r F look
value_le_bound m ok look F zero qs uss ks =
    let O = joint_observations m in
    zle_trans _ _ _
    (zle_of _ _ (forward_is_backward m (fixed_joint_action m F) qs (F.stage + 0) F.stage 0 refl
    (follows_fixed m F 0 qs uss ks)))
    (add_none_le _ _ (int_history_sum_ext O F.stage _ (λ H. pos 0)
    (λ H p. weighted_zeros m.states (history_weight m (fixed_joint_action m F) H))
    ∙ int_history_sum_zero O F.stage))
value_le_bound m ok look F (suc r) qs uss ks = following_policy_le_bound m ok F r look qs uss ks

-- for a horizon of h steps
pub keeper_under_bound : (m : Model) → IsModel m → (h r look : ℕ) (F : Front) (qs : List PolicyTree)
    → IsFront m h F
    → F.stage + r ≡ h → IsPolicyOf m h qs → KeepsFront m F qs → policy_value m h qs ≤ℤ bound_of m r F look
keeper_under_bound m ok h r look F qs front e policy keeps =
    let follows = follows_of_keeps m h r F qs e front policy keeps in
    subst (λ (n : ℕ). policy_value m n qs ≤ℤ bound_of m r F look) e
    (value_le_bound m ok look F r qs follows.0 follows.1)
