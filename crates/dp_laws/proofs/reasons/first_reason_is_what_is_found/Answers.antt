use Rattle.dp_laws.proofs.FirstReasons.{first_reason_is}
use Rattle.dp_laws.proofs.reasons.first_reason_is_what_is_found.Goals as goal

pub returns : goal.returns
returns c = first_reason_is
