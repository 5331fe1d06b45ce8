use Rattle.dp_laws.proofs.SharedTexts.{shared_cells_pass_none}
use Rattle.dp_laws.proofs.shared_policies.shared_cells_pass_no_limit.Goals as goal

pub returns : goal.returns
returns c = shared_cells_pass_none
