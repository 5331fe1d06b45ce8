use Rattle.dp_writer.proofs.WrittenRead.{written_models_read_back}
use Rattle.dp_writer.proofs.laws.written_models_read_back.Goals as goal

pub returns : goal.returns
returns c = written_models_read_back
