use Rattle.std.proofs.Common.{◌≡◌, drop}
use Rattle.dp_spec.specs.JointNumbers.{parts_of}
use Rattle.dp_game.specs.Games.{each_agrees}
use Rattle.dp_game.proofs.actions.JointActions.agrees.Given as goal

abbrev pub invariant-loop-agent : goal.invariant-loop-agent
invariant-loop-agent l =
    each_agrees (drop l.agent l.wanted) (drop l.agent (parts_of l.self l.action)) ≡ each_agrees l.wanted
    (parts_of l.self l.action)
