use Rattle.std.proofs.Common.{◌≡◌, ◌*◌, drop}
use Rattle.dp_spec.specs.JointNumbers.{product}
use Rattle.dp_game.specs.Games.{own_counts}
use Rattle.dp_game.proofs.places.width_from.Given as goal

abbrev pub invariant-loop-agent : goal.invariant-loop-agent
invariant-loop-agent l = l.width * product (drop l.agent (own_counts l.choices)) ≡ product
    (drop l.first (own_counts l.choices))
