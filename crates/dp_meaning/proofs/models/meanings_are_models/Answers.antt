use Rattle.dp_meaning.proofs.ModelLaws.{model_is}
use Rattle.dp_meaning.proofs.models.meanings_are_models.Goals as goal

pub returns : goal.returns
returns c = model_is
