use Rattle.std.proofs.Common.{◌≡◌}
use Rattle.dp_game.specs.Games.{choices_in}
use Rattle.dp_game.specs.Kept.{rows_of}
use Rattle.dp_game.proofs.places.wanted_choices.Given as goal

abbrev pub invariant-loop-joint : goal.invariant-loop-joint
invariant-loop-joint l = l.wanted.items ≡ rows_of (choices_in l.choices) l.joint
