-- more look never raises the look-ahead
use Rattle.std.proofs.Common.{◌≡◌, ℕ, zero, suc, ◌+◌, ◌-◌, ◌≤◌, pos, ◌*ℤ◌, ◌≤ℤ◌, List, refl, subst, arith}
use Rattle.dp_base.proofs.Order.{add_le_right}
use Rattle.dp_base.proofs.Ring.{zle_trans, zle_of}
use Rattle.dp_base.proofs.Sums.{int_sum_le}
use Rattle.dp_laws.proofs.TableBound.{look_ahead_le_table}
use Rattle.dp_laws.proofs.OneStep.{value_le_action_look_ahead}
use Rattle.dp_spec.specs.LookAhead.{action_look_ahead, look_ahead, weighted_reward, weights_after}
use Rattle.dp_spec.specs.Model.{IsModel, Model, joint_actions, joint_observations}
use Rattle.dp_spec.specs.PolicyTree.{IsPolicyOf, PolicyTree}
use Rattle.dp_base.specs.Sums.{int_sum, numbers_below}
use Rattle.dp_spec.specs.Value.{backward_value, joint_root_action}
use Rattle.dp_base.proofs.GreatestValues.{greatest_mono}

-- one step of look more
one_more : (m : Model) → IsModel m → (r k : ℕ) (w : ℕ → ℕ) → look_ahead m r w (suc k) ≤ℤ look_ahead m r w k
one_more m ok zero k w = zle_of (pos 0) (pos 0) refl
one_more m ok (suc r) zero w = look_ahead_le_table m ok (suc r) 1 w
one_more m ok (suc r) (suc k) w =
    greatest_mono _ _ (numbers_below (joint_actions m)) (λ a i. add_le_right (weighted_reward m r w a) _ _
    (int_sum_le (joint_observations m) _ _ (λ o p. one_more m ok r k (weights_after m w a o))))

so_many_more : (m : Model) → IsModel m → (r k j : ℕ) (w : ℕ → ℕ)
    → look_ahead m r w (k + j) ≤ℤ look_ahead m r w k
so_many_more m ok r k zero w = zle_of _ _ (let e : k + 0 ≡ k = omega arith in rw e)
so_many_more m ok r k (suc j) w =
    let e : k + suc j ≡ suc (k + j) = omega arith in
    rw e (zle_trans _ _ _ (one_more m ok r (k + j) w) (so_many_more m ok r k j w))

-- a longer look gives no greater look-ahead
pub longer_look_le : (m : Model) → IsModel m → (r k l : ℕ) (w : ℕ → ℕ) → k ≤ l
    → look_ahead m r w l ≤ℤ look_ahead m r w k
longer_look_le m ok r k l w h =
    let e : k + (l - k) ≡ l = omega arith in
    subst (λ (n : ℕ). look_ahead m r w n ≤ℤ look_ahead m r w k) e (so_many_more m ok r k (l - k) w)

-- the same where a joint action is done first
pub longer_look_action_le : (m : Model) → IsModel m → (r k l : ℕ) (w : ℕ → ℕ) (a : ℕ) → k ≤ l
    → action_look_ahead m r w a l ≤ℤ action_look_ahead m r w a k
unfolding action_look_ahead
longer_look_action_le m ok r k l w a h =
    add_le_right (weighted_reward m r w a) _ _ (int_sum_le (joint_observations m) _ _
    (λ o p. longer_look_le m ok r (k - 1) (l - 1) (weights_after m w a o) (omega arith)))

-- no joint policy that begins with a joint action earns more than its look-ahead
pub value_under_action : (m : Model) → IsModel m → (r k : ℕ) (w : ℕ → ℕ) (a : ℕ) (qs : List PolicyTree)
    → IsPolicyOf m (suc r) qs → joint_root_action m qs ≡ a →
    int_sum m.states (λ s. pos (w s) *ℤ backward_value m (suc r) s qs) ≤ℤ action_look_ahead m r w a k
value_under_action m ok r k w a qs policy e =
    subst (λ (b : ℕ). int_sum m.states (λ s. pos (w s) *ℤ backward_value m (suc r) s qs)
    ≤ℤ action_look_ahead m r w b k) e (value_le_action_look_ahead m ok r k w qs policy)
