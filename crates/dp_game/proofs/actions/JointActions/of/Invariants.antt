use Rattle.std.proofs.Common.{◌≡◌, take}
use Rattle.dp_game.proofs.actions.JointActions.of.Given as goal

abbrev pub invariant-loop-agent : goal.invariant-loop-agent
invariant-loop-agent l = l.sizes.items ≡ take l.agent l.model.model.actions
