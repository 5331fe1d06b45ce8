use Rattle.std.proofs.Common.{◌≡◌, ◌≤◌, ◌<◌, Bool}
use Rattle.dp_base.specs.Decimals.{shortest}
use Rattle.dp_writer.proofs.decimals.shortened.Given as goal

-- it is the same decimal
abbrev pub invariant-loop-count : goal.invariant-loop-count
invariant-loop-count l = record {
  same : (negative : Bool) → shortest negative l.left l.count ≡ shortest negative l.units l.digits;
  fewer : l.count ≤ l.digits;
  some : 0 < l.units → 0 < l.left;
}

abbrev pub decreases-loop-count : goal.decreases-loop-count
decreases-loop-count l = l.count
