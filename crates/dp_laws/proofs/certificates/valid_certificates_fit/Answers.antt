use Rattle.dp_laws.proofs.SmallBranches.{valid_fits}
use Rattle.dp_laws.proofs.certificates.valid_certificates_fit.Goals as goal

pub returns : goal.returns
returns c = valid_fits
