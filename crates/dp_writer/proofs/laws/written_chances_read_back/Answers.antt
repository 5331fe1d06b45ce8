use Rattle.dp_writer.proofs.ReadFractions.{chances_read_back}
use Rattle.dp_writer.proofs.laws.written_chances_read_back.Goals as goal

pub returns : goal.returns
returns c = chances_read_back
