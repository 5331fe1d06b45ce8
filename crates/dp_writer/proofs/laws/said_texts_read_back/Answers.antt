use Rattle.dp_writer.proofs.ReadTexts.{said_texts_read_back}
use Rattle.dp_writer.proofs.laws.said_texts_read_back.Goals as goal

pub returns : goal.returns
returns c = said_texts_read_back
