use Rattle.std.proofs.Common.{length}
use Rattle.dp_tables.proofs.writing.+without_last_any.Given as goal

abbrev pub decreases-without_last_any : goal.decreases-without_last_any
decreases-without_last_any l = length l.parts.now
