use Rattle.std.proofs.Common.{◌≡◌, ◌++◌, map}
use Rattle.std.specs.List.{range_with_len}
use Rattle.dp_game.specs.Extended.{greatest_at}
use Rattle.dp_game.proofs.greatest.push_row.Given as goal

abbrev pub invariant-loop-joint : goal.invariant-loop-joint
invariant-loop-joint l = l.best.items ≡ l.fn.best.items ++ map (greatest_at l.actions l.table l.extended)
    (range_with_len 0 l.joint)
