use Rattle.dp_io.proofs.FetchLemmas.{faults_rise}
use Rattle.dp_io.proofs.laws.a_fetch_fails_where_the_faults_rise.Goals as goal

pub returns : goal.returns
returns c = faults_rise
