-- In exact arithmetic the bound of a full front is the value of the policy that it fixes.
use Rattle.std.proofs.Common.{◌≡◌, ℕ, ◌+◌, ◌-◌, sym, ap, ◌∙◌, arith}
use Rattle.dp_laws.proofs.FullPolicies.{full_policy_keeps}
use Rattle.dp_laws.proofs.KeptValue.{value_at_full_front}
use Rattle.dp_laws.proofs.QuantityLaws.{exact_quantities}
use Rattle.dp_spec.specs.Arithmetic.{exact}
use Rattle.dp_spec.specs.Bound.{bound_of}
use Rattle.dp_spec.specs.Fitting.{front_bound}
use Rattle.dp_spec.specs.Front.{Front, fixed_joint_action}
use Rattle.dp_spec.specs.FullPolicy.{full_policy}
use Rattle.dp_spec.specs.JointHistory.{earned_reward}
use Rattle.dp_spec.specs.Model.{IsModel, Model}
use Rattle.dp_spec.specs.Quantities.{bound_in}
use Rattle.dp_spec.specs.Value.{policy_value}
use Rattle.dp_spec.specs.WellFormed.{IsFront}

pub full_bound_is_value : (m : Model) (h look : ℕ) (F : Front) → IsModel m → IsFront m h F → F.stage ≡ h
    → front_bound (exact m.scales) m h look F ≡ policy_value m h (full_policy m F)
unfolding front_bound
full_bound_is_value m h look F is front e =
    let A = exact m.scales in
    let none : h - F.stage ≡ 0 = omega arith in
    let kept = full_policy_keeps m h F front e in
    let bound : bound_in A m 0 F look ≡ bound_of m 0 F look = (exact_quantities m is).bounds 0 F look in
    let there : F.stage + 0 ≡ h = omega arith in
    let earned : bound_of m 0 F look ≡ earned_reward m (fixed_joint_action m F) h h =
    ap (λ (n : ℕ). earned_reward m (fixed_joint_action m F) n F.stage) there
    ∙ ap (λ (n : ℕ). earned_reward m (fixed_joint_action m F) h n) e in
    ap (λ (r : ℕ). bound_in A m r F look) none ∙ bound ∙ earned
    ∙ sym (value_at_full_front m h F (full_policy m F) e kept.1)
