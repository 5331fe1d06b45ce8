use Rattle.std.proofs.Common.{length, ◌≡◌}
use Rattle.dp_tables.proofs.WritingLemmas.{AreWrittenUpTo, behind_first}
use Rattle.dp_tables.proofs.writing.+write.Given as goal

abbrev pub decreases-write : goal.decreases-write
decreases-write g l = length l.parts.now

abbrev pub invariant-loop-i : goal.invariant-loop-i
invariant-loop-i g l = record {
  len : length l.cells ≡ length l.fn.cells;
  written : AreWrittenUpTo l.step l.first l.i (behind_first l.sizes)
      (behind_first l.parts) l.block l.fn.cells l.cells;
}
