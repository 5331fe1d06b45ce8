use Rattle.dp_laws.proofs.VersionOnePlans.{tested_plan_ends}
use Rattle.dp_laws.proofs.plans.plans_of_version_one_end.Goals as goal

pub returns : goal.returns
returns c = tested_plan_ends
