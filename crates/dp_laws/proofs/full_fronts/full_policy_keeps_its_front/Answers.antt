use Rattle.dp_laws.proofs.FullPolicies.{full_policy_keeps}
use Rattle.dp_laws.proofs.full_fronts.full_policy_keeps_its_front.Goals as goal

pub returns : goal.returns
returns c = full_policy_keeps
