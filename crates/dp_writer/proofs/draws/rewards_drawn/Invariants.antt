use Rattle.std.proofs.Common.{◌≡◌}
use Rattle.dp_writer.specs.Draws.{left_after}
use Rattle.dp_writer.proofs.DrawnRewards.{AreRewards}
use Rattle.dp_writer.proofs.draws.rewards_drawn.Given as goal

abbrev pub invariant-loop-row : goal.invariant-loop-row
invariant-loop-row g l = record {
  drawn : AreRewards (g.R.Rng.stream l.fn.rng) l.len l._row l.cells.items;
  left : g.R.Rng.stream l.rng ≡ left_after l._row (g.R.Rng.stream l.fn.rng);
}
