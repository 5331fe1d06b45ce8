use Rattle.dp_laws.proofs.ValidCertificates.{claims_hold}
use Rattle.dp_laws.proofs.certificates.valid_certificates_hold.Goals as goal

pub returns : goal.returns
returns c = claims_hold
