use Rattle.dp_laws.proofs.FirstReasons.{no_reason_where_valid}
use Rattle.dp_laws.proofs.reasons.valid_certificates_have_no_reason.Goals as goal

pub returns : goal.returns
returns c = no_reason_where_valid
