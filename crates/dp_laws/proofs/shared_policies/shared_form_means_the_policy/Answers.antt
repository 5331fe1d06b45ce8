use Rattle.dp_laws.proofs.SharedForms.{shared_form_is}
use Rattle.dp_laws.proofs.shared_policies.shared_form_means_the_policy.Goals as goal

pub returns : goal.returns
returns c = shared_form_is
