use Rattle.std.proofs.Common.{length, ◌-◌}
use Rattle.dp_items.proofs.LineLemmas.{AreLinesSoFar}
use Rattle.dp_items.proofs.line.lines_of.Given as goal

abbrev pub invariant-loop-piece : goal.invariant-loop-piece
invariant-loop-piece l = AreLinesSoFar l.end l.pieces l.lines.items l.first l.past l.at

abbrev pub decreases-loop-piece : goal.decreases-loop-piece
decreases-loop-piece l = length l.pieces - l.at
