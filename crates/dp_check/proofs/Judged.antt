-- What a verdict says of a certificate.
use Rattle.std.proofs.Common.{◌≡◌, Some, None, sym, ◌∙◌}
use Rattle.dp_spec.specs.Certificate.{Certificate, IsCertificateOf, IsValid}
use Rattle.dp_spec.specs.FirstReason.{IsFirstReason}
use Rattle.dp_spec.specs.Model.{Model}
use Rattle.dp_spec.specs.Reasons.{Reason, first_reason}
use Rattle.dp_laws.proofs.FirstReasons.{first_reason_is, no_reason_where_valid}

module _ (m : Model) (c : Certificate) (fits : IsCertificateOf m c) where
  pub valid_without : None ≡ first_reason m c → IsValid m c
  valid_without e = (no_reason_where_valid m c fits.within fits.policy).0 (sym e)

  pub found_where : (r : Reason) → Some r ≡ first_reason m c → IsFirstReason m c r
  found_where r e = (first_reason_is m c r).0 (sym e)

  pub not_valid_with : (r : Reason) → Some r ≡ first_reason m c → IsValid m c → ⊥
  not_valid_with r e valid = let bad : Some r ≡ None = e ∙ (no_reason_where_valid m c fits.within fits.policy).1
      valid in cc
