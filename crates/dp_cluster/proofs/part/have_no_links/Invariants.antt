use Rattle.std.proofs.Common.{map}
use Rattle.dp_cluster.proofs.OwnNumbers.{LeaveLinks}
use Rattle.dp_cluster.proofs.part.have_no_links.Given as goal

abbrev pub invariant-loop-stage : goal.invariant-loop-stage
invariant-loop-stage l = LeaveLinks (map (λ s. s.value) l.past) l.stage-index
