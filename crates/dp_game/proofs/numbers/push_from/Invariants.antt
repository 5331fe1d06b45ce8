use Rattle.std.proofs.Common.{◌≡◌, ◌+◌, ◌++◌, map, get_or}
use Rattle.std.specs.List.{range_with_len}
use Rattle.dp_game.proofs.numbers.push_from.Given as goal

abbrev pub invariant-loop-joint : goal.invariant-loop-joint
invariant-loop-joint l = l.numbers.items ≡ l.fn.numbers.items ++ map (λ C. l.first + get_or l.later C 0)
    (range_with_len 0 l.joint)
