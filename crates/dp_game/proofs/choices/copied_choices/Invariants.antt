use Rattle.std.proofs.Common.{◌≡◌, take}
use Rattle.dp_game.proofs.choices.copied_choices.Given as goal

abbrev pub invariant-loop-own : goal.invariant-loop-own
invariant-loop-own l = l.copied.items ≡ take l.own-index l.choices
