use Rattle.std.proofs.Common.{◌≡◌, take}
use Rattle.dp_game.specs.Extended.{choices_at}
use Rattle.dp_game.proofs.actions.JointActions.choices_at.Given as goal

abbrev pub invariant-loop-agent : goal.invariant-loop-agent
invariant-loop-agent l = l.wanted.items ≡ take l.agent (choices_at l.self l.extended)
