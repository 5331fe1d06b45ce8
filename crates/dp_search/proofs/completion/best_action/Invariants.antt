use Rattle.std.proofs.Common.{◌≡◌}
use Rattle.dp_search.specs.Completions.{bound_after}
use Rattle.dp_search.specs.Constants.{IsLeastGreatest}
use Rattle.dp_search.proofs.completion.best_action.Given as goal

abbrev pub invariant-loop-action : goal.invariant-loop-action
invariant-loop-action l =
    IsLeastGreatest l.action (bound_after l.fn.game l.agent l.class) l.best.action
    × (l.best.worth ≡ bound_after l.fn.game l.agent l.class l.best.action) × (l.game ≡ l.fn.game)
