use Rattle.dp_laws.proofs.SharedTrees.{history_reaches}
use Rattle.dp_laws.proofs.shared_policies.histories_reach_their_rows.Goals as goal

pub returns : goal.returns
returns c = history_reaches
