use Rattle.dp_io.proofs.FetchLemmas.{told_fetch}
use Rattle.dp_io.proofs.laws.a_told_fetch_is_determined.Goals as goal

pub returns : goal.returns
returns c = told_fetch
