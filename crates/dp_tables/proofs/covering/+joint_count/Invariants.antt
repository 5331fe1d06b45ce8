use Rattle.std.proofs.Common.{length}
use Rattle.dp_tables.proofs.covering.+joint_count.Given as goal

abbrev pub decreases-joint_count : goal.decreases-joint_count
decreases-joint_count l = length l.lists.now
