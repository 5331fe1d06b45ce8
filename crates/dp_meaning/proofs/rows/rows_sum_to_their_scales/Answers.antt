use Rattle.dp_meaning.proofs.RowLaws.{rows_sum}
use Rattle.dp_meaning.proofs.rows.rows_sum_to_their_scales.Goals as goal

pub returns : goal.returns
returns c = rows_sum
