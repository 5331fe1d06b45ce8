use Rattle.std.proofs.Common.{◌≡◌, ◌*◌, drop}
use Rattle.dp_spec.specs.JointNumbers.{product}
use Rattle.dp_game.specs.Extended.{choice_counts}
use Rattle.dp_game.proofs.actions.JointActions.extended_from.Given as goal

abbrev pub invariant-loop-agent : goal.invariant-loop-agent
invariant-loop-agent l = l.count * product (drop l.agent (choice_counts l.self)) ≡ product
    (drop l.first (choice_counts l.self))
