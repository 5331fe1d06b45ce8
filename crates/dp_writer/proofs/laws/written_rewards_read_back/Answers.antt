use Rattle.dp_writer.proofs.ReadFractions.{rewards_read_back}
use Rattle.dp_writer.proofs.laws.written_rewards_read_back.Goals as goal

pub returns : goal.returns
returns c = rewards_read_back
