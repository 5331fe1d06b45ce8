use Rattle.dp_laws.proofs.FittingTrees.{keeper_under_computed_bound}
use Rattle.dp_laws.proofs.front_bound.no_keeping_policy_above_computed_bound.Goals as goal

pub returns : goal.returns
returns c = keeper_under_computed_bound
