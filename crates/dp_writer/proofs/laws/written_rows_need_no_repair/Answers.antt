use Rattle.dp_writer.proofs.ReadRows.{rows_need_no_repair}
use Rattle.dp_writer.proofs.laws.written_rows_need_no_repair.Goals as goal

pub returns : goal.returns
returns c = rows_need_no_repair
