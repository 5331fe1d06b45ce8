use Rattle.std.proofs.Common.{length}
use Rattle.dp_tables.proofs.covering.+allow.Given as goal

abbrev pub decreases-allow : goal.decreases-allow
decreases-allow l = length l.lists.now
