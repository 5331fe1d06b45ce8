use Rattle.std.proofs.Common.{◌≡◌}
use Rattle.dp_spec.specs.JointNumbers.{parts_of}
use Rattle.dp_game.specs.Kept.{rows_of}
use Rattle.dp_game.proofs.actions.action_parts.Given as goal

abbrev pub invariant-loop-action : goal.invariant-loop-action
invariant-loop-action l = l.parts.items ≡ rows_of (parts_of l.model.model.actions) l.action
