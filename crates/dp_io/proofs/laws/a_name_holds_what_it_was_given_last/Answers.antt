use Rattle.dp_io.proofs.HeldLemmas.{holds_latest}
use Rattle.dp_io.proofs.laws.a_name_holds_what_it_was_given_last.Goals as goal

pub returns : goal.returns
returns c = holds_latest
