-- every quantity in one record, in a sound arithmetic and in those of the two modes
use Rattle.std.proofs.Common.{ℕ, ℤ, Bool, List, sym, subst, arith}
use Rattle.dp_laws.proofs.EnclosedQuantities.{action_look_ahead_enclosed, bound_enclosed, class_weight_enclosed}
use Rattle.dp_laws.proofs.EnclosedQuantities.{earned_reward_enclosed, history_weight_enclosed, look_ahead_enclosed}
use Rattle.dp_laws.proofs.EnclosedQuantities.{mdp_table_enclosed, weighted_reward_enclosed, weights_after_enclosed}
use Rattle.dp_laws.proofs.ExactArithmetic.{exact_sound}
use Rattle.dp_laws.proofs.Modes.{model_arithmetic_sound}
use Rattle.dp_laws.proofs.OutwardArithmetic.{outward_sound}
use Rattle.dp_laws.proofs.EarnedValue.{value_is_earned}
use Rattle.dp_laws.specs.ArithmeticLaws.{EnclosesQuantities}
use Rattle.dp_spec.proofs.ScaleRange.{scales_in_range}
use Rattle.dp_spec.specs.Arithmetic.{Arithmetic, arithmetic, exact, outward}
use Rattle.dp_spec.specs.Enclosure.{Enclosure, IsSound, containment, enclosure, equality}
use Rattle.dp_spec.specs.JointHistory.{trees_after_history}
use Rattle.dp_spec.specs.Model.{IsModel, Model, value_scale}
use Rattle.dp_spec.specs.PolicyTree.{PolicyTree}
use Rattle.dp_spec.specs.Quantities.{earned_reward_in, forward_worth_in}
use Rattle.dp_spec.specs.Value.{joint_root_action, policy_value}

-- the worth span encloses the value of the policy
pub worth_enclosed : (m : Model) (A : Arithmetic) (R : Enclosure) → IsSound m.scales A R
    → (h : ℕ) (qs : List PolicyTree)
    → R.Earns (value_scale m h) (policy_value m h qs) (forward_worth_in A m h qs)
unfolding forward_worth_in
worth_enclosed m A R ok h qs =
    subst (λ (x : ℤ). R.Earns (value_scale m h) x (earned_reward_in A m
    (λ H. joint_root_action m (trees_after_history m qs H)) h h)) (sym (value_is_earned m h qs))
    (earned_reward_enclosed m A R ok (λ H. joint_root_action m (trees_after_history m qs H)) h h (omega arith))

-- a sound arithmetic encloses every quantity
pub quantities_enclosed : (m : Model) (A : Arithmetic) (R : Enclosure) → IsModel m → IsSound m.scales A R
    → EnclosesQuantities m A R
quantities_enclosed m A R is ok = record {
  history_weights = history_weight_enclosed m A R ok;
  class_weights = class_weight_enclosed m A R ok;
  next_weights = weights_after_enclosed m A R ok;
  rewards = weighted_reward_enclosed m A R ok;
  earned_rewards = earned_reward_enclosed m A R ok;
  worths = worth_enclosed m A R ok;
  tables = mdp_table_enclosed m A R ok;
  look_aheads = look_ahead_enclosed m A R ok is;
  action_look_aheads = action_look_ahead_enclosed m A R ok is;
  bounds = bound_enclosed m A R ok is;
}

-- in the exact arithmetic
pub exact_quantities : (m : Model) → IsModel m → EnclosesQuantities m (exact m.scales) equality
exact_quantities m is = quantities_enclosed m (exact m.scales) equality is (exact_sound m.scales)

-- in the outward arithmetic
pub outward_quantities : (m : Model) → IsModel m → EnclosesQuantities m (outward m.scales) containment
outward_quantities m is = quantities_enclosed m (outward m.scales) containment is
    (outward_sound m.scales (scales_in_range m.scales is.scales))

-- in that of either mode
pub mode_quantities : (m : Model) → IsModel m → (e : Bool) → EnclosesQuantities m (arithmetic e m.scales)
    (enclosure e)
mode_quantities m is e = quantities_enclosed m (arithmetic e m.scales) (enclosure e) is
    (model_arithmetic_sound m is e)
