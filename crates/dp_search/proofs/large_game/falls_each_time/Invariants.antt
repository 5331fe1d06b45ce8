use Rattle.std.proofs.Common.{◌≡◌}
use Rattle.dp_search.proofs.large_game.falls_each_time.Given as goal

abbrev pub invariant-loop-round : goal.invariant-loop-round
invariant-loop-round l = l.game ≡ l.fn.game
