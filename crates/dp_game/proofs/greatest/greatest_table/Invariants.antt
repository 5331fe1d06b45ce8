use Rattle.std.proofs.Common.{◌≡◌, map}
use Rattle.std.specs.List.{range_with_len}
use Rattle.dp_game.specs.Extended.{greatest_at}
use Rattle.dp_game.specs.Kept.{rows_of}
use Rattle.dp_game.proofs.greatest.greatest_table.Given as goal

abbrev pub invariant-loop-extended : goal.invariant-loop-extended
invariant-loop-extended l =
    l.best.items ≡ rows_of (λ x. map (greatest_at l.actions l.table x) (range_with_len 0 l.joints)) l.extended
