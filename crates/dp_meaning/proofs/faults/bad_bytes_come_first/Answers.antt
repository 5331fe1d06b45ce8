use Rattle.dp_meaning.proofs.FaultLaws.{bad_byte_first}
use Rattle.dp_meaning.proofs.faults.bad_bytes_come_first.Goals as goal

pub returns : goal.returns
returns c = bad_byte_first
