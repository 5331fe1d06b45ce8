use Rattle.std.proofs.Common.{◌≡◌, ◌++◌, drop}
use Rattle.dp_spec.specs.JointNumbers.{parts_of}
use Rattle.dp_game.specs.Games.{choices_for, choices_in, own_counts}
use Rattle.dp_game.proofs.TakenApart.{IsTakenApart}
use Rattle.dp_game.proofs.places.push_wanted.Given as goal

abbrev pub invariant-loop-own : goal.invariant-loop-own
invariant-loop-own l =
    IsTakenApart l.choices l.own-index l.left l.rest
    × (l.wanted.items ++ choices_for (drop l.own-index l.choices)
    (parts_of (own_counts (drop l.own-index l.choices)) l.rest)
    ≡ l.fn.wanted.items ++ choices_in l.choices l.joint)
