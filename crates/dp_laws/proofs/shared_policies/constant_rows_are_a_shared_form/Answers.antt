use Rattle.dp_laws.proofs.ConstantRows.{constant_rows_is}
use Rattle.dp_laws.proofs.shared_policies.constant_rows_are_a_shared_form.Goals as goal

pub returns : goal.returns
returns c = constant_rows_is
