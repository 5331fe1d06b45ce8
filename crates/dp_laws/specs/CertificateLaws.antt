-- What a valid certificate says of the policies of its model, in both modes and with merges.
use Rattle.std.specs.Prelude.{◌≡◌, ◌≤◌, ◌≤ℤ◌, true}
use Rattle.dp_spec.specs.Model.{IsModel, Model}
use Rattle.dp_spec.specs.Value.{policy_value}
use Rattle.dp_spec.specs.SharedPolicy.{unfolded}
use Rattle.dp_spec.specs.Certificate.{Certificate, IsCertificateOf, IsValid, arithmetic_for}
use Rattle.dp_spec.specs.Quantities.{forward_worth_in}
use Rattle.dp_spec.specs.Claims.{ClaimsHold, IsOptimal}
use Rattle.dp_spec.specs.Qualities.{IsClosed}

-- the true value of the policy lies in the interval, and no joint policy is worth more than the upper end
abbrev pub ValidCertificatesHold : Type 0
ValidCertificatesHold = (m : Model) (c : Certificate) → IsModel m → IsValid m c → ClaimsHold m c

-- the lower end is at most the upper end
abbrev pub EndsAreInOrder : Type 0
EndsAreInOrder = (m : Model) (c : Certificate) → IsModel m → IsValid m c → c.lower ≤ℤ c.upper

-- in exact mode the lower end is the value of the policy that its rows mean
abbrev pub LowerEndIsTheValue : Type 0
LowerEndIsTheValue =
    (m : Model) (c : Certificate) → IsValid m c → c.is_exact ≡ true →
    c.lower ≡ policy_value m c.horizon (unfolded c.policy)

-- in version 1 the lower end is the forward worth of the policy that its rows mean, rounded down
abbrev pub LowerEndOfVersionOne : Type 0
LowerEndOfVersionOne =
    (m : Model) (c : Certificate) → IsValid m c → c.version ≡ 1 →
    c.lower ≡ (forward_worth_in (arithmetic_for m c) m c.horizon (unfolded c.policy)).low

-- in exact mode a closed certificate has equal ends and an optimal policy
abbrev pub ClosedCertificatesAreOptimal : Type 0
ClosedCertificatesAreOptimal =
    (m : Model) (c : Certificate) → IsModel m → IsValid m c → IsClosed m c → c.is_exact ≡ true →
    (c.lower ≡ c.upper) × IsOptimal m c.horizon (unfolded c.policy)

-- a valid certificate with a look in its range and at most a million branches and merges is all that is asked of one
-- before it is checked or written
abbrev pub ValidCertificatesFit : Type 0
ValidCertificatesFit =
    (m : Model) (c : Certificate) → IsModel m → IsValid m c → 1 ≤ c.look → c.look ≤ 16 → c.inner ≤ 1000000 →
    IsCertificateOf m c
