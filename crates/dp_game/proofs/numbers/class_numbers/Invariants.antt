use Rattle.std.proofs.Common.{◌-◌, drop, length}
use Rattle.dp_game.specs.Extended.{AreNumbersOf}
use Rattle.dp_game.proofs.numbers.class_numbers.Given as goal

abbrev pub invariant-loop-step : goal.invariant-loop-step
invariant-loop-step l = AreNumbersOf (drop (length l.choices - l.step) l.actions)
    (drop (length l.choices - l.step) l.choices) l.numbers.items
