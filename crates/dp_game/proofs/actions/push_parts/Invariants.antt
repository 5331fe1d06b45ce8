use Rattle.std.proofs.Common.{◌≡◌, ◌++◌, take}
use Rattle.dp_spec.specs.JointNumbers.{parts_of}
use Rattle.dp_game.proofs.actions.push_parts.Given as goal

abbrev pub invariant-loop-agent : goal.invariant-loop-agent
invariant-loop-agent l = l.parts.items ≡ l.fn.parts.items ++ take l.agent
    (parts_of l.model.model.actions l.action)
