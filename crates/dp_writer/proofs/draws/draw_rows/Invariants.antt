use Rattle.std.proofs.Common.{◌≡◌, ◌*◌}
use Rattle.dp_writer.specs.Draws.{left_after}
use Rattle.dp_writer.proofs.DrawnRows.{AreDrawn}
use Rattle.dp_writer.proofs.draws.draw_rows.Given as goal

abbrev pub invariant-loop-row : goal.invariant-loop-row
invariant-loop-row g l = record {
  drawn : AreDrawn (g.R.Rng.stream l.fn.rng) l.len l.row l.cells;
  left : g.R.Rng.stream l.rng ≡ left_after (3 * l.row) (g.R.Rng.stream l.fn.rng);
}
