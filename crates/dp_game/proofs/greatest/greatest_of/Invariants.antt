use Rattle.std.proofs.Common.{◌≡◌, ◌+◌, ◌-◌, drop, get_or, length, pos}
use Rattle.dp_base.specs.Sums.{greatest}
use Rattle.dp_game.proofs.greatest.greatest_of.Given as goal

abbrev pub invariant-loop-step : goal.invariant-loop-step
invariant-loop-step l =
    l.best ≡ greatest (λ a. get_or l.table (l.first + a) (pos 0)) (drop (length l.numbers - l.step) l.numbers)
