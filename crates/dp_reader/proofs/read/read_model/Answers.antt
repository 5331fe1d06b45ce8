use Rattle.dp_meaning.specs.Meaning.{meaning}
use Rattle.dp_reader.proofs.ReadingLemmas.{model_iff, fault_iff, limit_iff}
use Rattle.dp_reader.proofs.read.read_model.Goals as goal

pub returns : goal.returns
returns c =
    let meant = meaning c.args.bytes.now in
    let is = c.read.ensures in
    record {
      is = is;
      model = model_iff meant c.read.result is;
      fault = fault_iff meant c.read.result is;
      limit = limit_iff meant c.read.result is;
    }
