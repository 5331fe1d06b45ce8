-- Forward is backward: a value is what was earned and what remains.
use Rattle.std.proofs.Common.{◌≡◌, ℕ, zero, suc, ◌+◌, ◌<◌, pos, ◌+ℤ◌, ◌*ℤ◌, List, ◌∷◌, sym, ap, ◌∙◌, arith}
use Rattle.std.proofs.Math.IntN.{+ℤ_idl, +ℤ_assoc}
use Rattle.dp_laws.proofs.OneStep.{one_step}
use Rattle.dp_spec.specs.JointHistory.{IsJointHistory, earned_reward, history_weight, int_history_sum}
use Rattle.dp_spec.specs.JointHistory.{trees_after_history}
use Rattle.dp_spec.specs.LookAhead.{weighted_reward, weights_after}
use Rattle.dp_spec.specs.Model.{Model, joint_observations}
use Rattle.dp_spec.specs.PolicyTree.{PolicyTree}
use Rattle.dp_base.specs.Sums.{int_sum}
use Rattle.dp_spec.specs.Value.{backward_value, joint_root_action, policy_value, trees_after}
use Rattle.dp_laws.proofs.HistorySums.{int_history_sum_add, int_history_sum_ext}

-- forward is backward: what is earned before time f, and the weights against what remains
pub forward_is_backward : (m : Model) (act : List ℕ → ℕ) (qs : List PolicyTree) (h f r : ℕ) → f + r ≡ h →
    ((t : ℕ) (H : List ℕ) → t < f → IsJointHistory (joint_observations m) t H
    → joint_root_action m (trees_after_history m qs H) ≡ act H) →
    policy_value m h qs ≡ earned_reward m act h f +ℤ int_history_sum (joint_observations m) f
    (λ H. int_sum m.states (λ s. pos (history_weight m act H s) *ℤ backward_value m r s
    (trees_after_history m qs H)))
unfolding policy_value
forward_is_backward m act qs h zero r e keeps = let e' : r ≡ h = omega arith in rw e' (sym (+ℤ_idl _))
forward_is_backward m act qs h (suc f) r e keeps =
    let O = joint_observations m in
    let A = λ (k : ℕ) (H : List ℕ). weighted_reward m k (history_weight m act H) (act H) in
    let B = λ (H : List ℕ). int_sum O (λ o. int_sum m.states
    (λ t. pos (history_weight m act (o ∷ H) t) *ℤ backward_value m r t (trees_after_history m qs (o ∷ H)))) in
    forward_is_backward m act qs h f (suc r) (omega arith) (λ t H p q. keeps t H (omega arith) q)
    ∙ ap (λ x. earned_reward m act h f +ℤ x)
    (int_history_sum_ext O f _ (λ H. A r H +ℤ B H)
    (λ H p.
    one_step m r (history_weight m act H) (trees_after_history m qs H)
    ∙ ap (λ (a : ℕ). weighted_reward m r (history_weight m act H) a +ℤ int_sum O
    (λ o. int_sum m.states (λ t. pos (weights_after m (history_weight m act H) a o t) *ℤ backward_value m r t
    (trees_after m (trees_after_history m qs H) o)))) (keeps f H (omega arith) p))
    ∙ int_history_sum_add O f (A r) B)
    ∙ sym (+ℤ_assoc (earned_reward m act h f) (int_history_sum O f (A r)) (int_history_sum O f B))
    ∙ ap (λ (k : ℕ). earned_reward m act h f +ℤ int_history_sum O f (A k) +ℤ int_history_sum O f B)
    (omega arith)
