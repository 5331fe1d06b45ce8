use Rattle.std.proofs.Common.{◌≡◌, ◌*◌, ◌^◌, ◌≤◌, take}
use Rattle.std.specs.Prelude.{sum}
use Rattle.dp_tables.proofs.repair.sum_of.Given as goal

abbrev pub invariant-loop-cell : goal.invariant-loop-cell
invariant-loop-cell l = record {
  is : l.total ≡ sum (take l.cell-index l.row);
  small : l.total ≤ l.cell-index
      * 2 ^ 64;
}
