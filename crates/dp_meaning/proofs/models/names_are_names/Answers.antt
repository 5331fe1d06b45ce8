use Rattle.dp_meaning.proofs.ModelLaws.{names_are}
use Rattle.dp_meaning.proofs.models.names_are_names.Goals as goal

pub returns : goal.returns
returns c = names_are
