-- the worth of a shared policy in the arithmetics of the modes
use Rattle.std.proofs.Common.{◌≡◌, ℕ, ◌-◌, ◌*◌, ◌^◌, ◌<◌, ◌≤◌, Bool, List, ap, ◌∙◌}
use Rattle.dp_laws.proofs.ExactArithmetic.{exact_sound}
use Rattle.dp_laws.proofs.Modes.{model_arithmetic_sound}
use Rattle.dp_laws.proofs.PlainForms.{plain_form_is}
use Rattle.dp_laws.proofs.PlainWorth.{plain_worth_is_forward}
use Rattle.dp_laws.proofs.SharedValue.{shared_worth_enclosed}
use Rattle.dp_spec.specs.Arithmetic.{Arithmetic, arithmetic, exact, point}
use Rattle.dp_spec.specs.Enclosure.{enclosure, equality}
use Rattle.dp_spec.specs.Model.{IsModel, Model, joint_observations, value_scale}
use Rattle.dp_spec.specs.PlainForm.{plain_form}
use Rattle.dp_spec.specs.PolicyTree.{IsPolicyOf, PolicyTree}
use Rattle.dp_spec.specs.Quantities.{forward_worth_in}
use Rattle.dp_spec.specs.SharedPolicy.{IsSharedOf, SharedPolicy, unfolded}
use Rattle.dp_spec.specs.SharedWorth.{shared_worth_in}
use Rattle.dp_spec.specs.Value.{policy_value}

-- in the exact one
pub exact_shared_worth : (m : Model) (h : ℕ) (p : SharedPolicy) → IsSharedOf m h p
    → shared_worth_in (exact m.scales) m h p ≡ point (policy_value m h (unfolded p))
exact_shared_worth m h p shared = shared_worth_enclosed m (exact m.scales) equality (exact_sound m.scales)
    h p shared

-- in either
pub shared_worth_in_mode : (m : Model) → IsModel m → (e : Bool) (h : ℕ) (p : SharedPolicy) → IsSharedOf m h p
    → (enclosure e).Earns (value_scale m h) (policy_value m h (unfolded p))
    (shared_worth_in (arithmetic e m.scales) m h p)
shared_worth_in_mode m is e h p shared = shared_worth_enclosed m (arithmetic e m.scales) (enclosure e)
    (model_arithmetic_sound m is e) h p shared

-- of a plain form it is the forward worth
pub plain_form_worth : (A : Arithmetic) (m : Model) (h : ℕ) (qs : List PolicyTree) → IsModel m → 0 < h
    → m.states * joint_observations m ^ (h - 1) ≤ 2 ^ 22 → IsPolicyOf m h qs
    → shared_worth_in A m h (plain_form m h qs) ≡ forward_worth_in A m h qs
plain_form_worth A m h qs model some cells policy =
    let form = plain_form_is m h qs model some cells policy in
    plain_worth_is_forward A m h (plain_form m h qs) form.0 form.1 ∙ ap (forward_worth_in A m h) form.2
