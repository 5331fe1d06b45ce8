use Rattle.std.proofs.Common.{◌≡◌}
use Rattle.dp_search.proofs.SpreadSteps.{least_bound}
use Rattle.dp_search.proofs.front_places.spread_of_class.Given as goal

abbrev pub invariant-loop-action : goal.invariant-loop-action
invariant-loop-action l =
    (l.game ≡ l.fn.game)
    × (l.least ≡ least_bound l.fn.model.model l.fn.front l.look l.agent l.class l.action)
