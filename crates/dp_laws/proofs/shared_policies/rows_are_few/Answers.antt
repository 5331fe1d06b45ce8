use Rattle.dp_laws.proofs.SharedTexts.{few_rows}
use Rattle.dp_laws.proofs.shared_policies.rows_are_few.Goals as goal

pub returns : goal.returns
returns c = few_rows
