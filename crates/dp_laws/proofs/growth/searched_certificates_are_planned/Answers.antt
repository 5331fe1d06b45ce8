use Rattle.dp_laws.proofs.SearchPlans.{searched_certificate_is_planned}
use Rattle.dp_laws.proofs.growth.searched_certificates_are_planned.Goals as goal

pub returns : goal.returns
returns c = searched_certificate_is_planned
