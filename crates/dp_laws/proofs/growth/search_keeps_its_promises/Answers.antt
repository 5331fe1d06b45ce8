use Rattle.dp_laws.proofs.SearchPromises.{promises_of_test}
use Rattle.dp_laws.proofs.growth.search_keeps_its_promises.Goals as goal

pub returns : goal.returns
returns c = promises_of_test
