use Rattle.std.proofs.Common.{◌≡◌, ◌+◌, ◌*◌, map, length, get_or, None}
use Rattle.std.specs.List.{range_with_len}
use Rattle.dp_game.specs.Extended.{choice_number}
use Rattle.dp_game.specs.Kept.{rows_of}
use Rattle.dp_game.proofs.numbers.numbers_with.Given as goal

abbrev pub invariant-loop-class : goal.invariant-loop-class
invariant-loop-class l = l.numbers.items ≡ rows_of (λ c. map (λ C. choice_number (get_or l.own c None) * l.width
    + get_or l.later C 0) (range_with_len 0 (length l.later))) l.class
