use Rattle.dp_laws.proofs.PlainForms.{plain_form_is}
use Rattle.dp_laws.proofs.shared_policies.plain_form_means_the_policy.Goals as goal

pub returns : goal.returns
returns c = plain_form_is
