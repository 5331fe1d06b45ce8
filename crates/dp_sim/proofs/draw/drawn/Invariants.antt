use Rattle.std.proofs.Common.{◌≡◌, ℕ, ◌≤◌}
use Rattle.dp_base.specs.Sums.{nat_sum}
use Rattle.dp_sim.specs.Draw.{GivesRow, scaled}
use Rattle.dp_sim.proofs.draw.drawn.Given as goal

abbrev pub invariant-loop-index : goal.invariant-loop-index
invariant-loop-index g l = record {
  summed : (row : ℕ → ℕ) → GivesRow g.C.Fn l.cell l.count l.scale row → l.sum ≡ nat_sum l.index row;
  passed : l.sum ≤ scaled l.scale l.word;
}
