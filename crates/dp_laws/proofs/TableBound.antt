-- A longer look is no higher than the table.
use Rattle.std.proofs.Common.{ℕ, zero, suc, ◌<◌, pos, ◌+ℤ◌, ◌*ℤ◌, ◌≤ℤ◌, refl, sym, ◌∙◌, arith}
use Rattle.std.proofs.lemmas.Int.{ints}
use Rattle.dp_base.proofs.Order.{add_le_right}
use Rattle.dp_base.proofs.Ring.{zle_trans, zle_of, zmul_le}
use Rattle.dp_base.proofs.Sums.{int_sum_le, int_sum_weigh}
use Rattle.dp_laws.proofs.OneStep.{one_step_to, step_le_table}
use Rattle.dp_spec.specs.LookAhead.{look_ahead, weighted_reward, weights_after}
use Rattle.dp_spec.specs.MdpTable.{mdp_table}
use Rattle.dp_spec.specs.Model.{IsModel, Model, joint_actions, joint_observations}
use Rattle.dp_base.specs.Sums.{int_sum}
use Rattle.dp_base.proofs.GreatestValues.{greatest_below_at_most}

-- one joint action, where what comes after is at most the table
pub action_le_table : (m : Model) → IsModel m → (r k : ℕ) (w : ℕ → ℕ) (a : ℕ) → a < joint_actions m
    → ((v : ℕ → ℕ) → look_ahead m r v k ≤ℤ int_sum m.states (λ s. pos (v s) *ℤ mdp_table m r s)) →
    (weighted_reward m r w a +ℤ int_sum (joint_observations m) (λ o. look_ahead m r (weights_after m w a o) k))
    ≤ℤ int_sum m.states (λ s. pos (w s) *ℤ mdp_table m (suc r) s)
action_le_table m ok r k w a p small =
    zle_trans _ _ _ (add_le_right (weighted_reward m r w a) _ _
    (int_sum_le (joint_observations m) _ _ (λ o q. small (weights_after m w a o))))
    (zle_trans _ _ _ (zle_of _ _ (sym (one_step_to m r w a (λ t o. mdp_table m r t))))
    (int_sum_le m.states _ _ (λ s q. zmul_le (w s) _ _ (step_le_table m ok r s a (λ t o. mdp_table m r t) q p
    (λ t o u v. zle_of _ _ refl)))))

-- look-ahead is at most the weights against the table
pub look_ahead_le_table : (m : Model) → IsModel m → (r k : ℕ) (w : ℕ → ℕ)
    → look_ahead m r w k ≤ℤ int_sum m.states (λ s. pos (w s) *ℤ mdp_table m r s)
look_ahead_le_table m ok zero k w = zle_of _ _ (sym (int_sum_weigh m.states w (pos 0) ∙ omega (arith, ints)))
look_ahead_le_table m ok (suc r) zero w = zle_of _ _ refl
look_ahead_le_table m ok (suc r) (suc k) w = greatest_below_at_most _ _ (joint_actions m) ok.sizes.some_action
    (λ a p. action_le_table m ok r k w a p (look_ahead_le_table m ok r k))
