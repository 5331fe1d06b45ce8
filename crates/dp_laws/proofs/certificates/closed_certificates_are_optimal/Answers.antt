use Rattle.dp_laws.proofs.ValidCertificates.{closed_is_optimal}
use Rattle.dp_laws.proofs.certificates.closed_certificates_are_optimal.Goals as goal

pub returns : goal.returns
returns c = closed_is_optimal
