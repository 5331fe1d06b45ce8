use Rattle.std.proofs.Common.{◌≡◌}
use Rattle.dp_search.specs.Constants.{IsLeastGreatest, constant_low_worth}
use Rattle.dp_search.proofs.constants.best_constant.Given as goal

abbrev pub invariant-loop-action : goal.invariant-loop-action
invariant-loop-action l =
    IsLeastGreatest l.action
    (constant_low_worth l.fn.fit.exact l.fn.model.model l.fn.version l.fn.fit.horizon) l.best.action
    × (l.best.worth ≡ constant_low_worth l.fn.fit.exact l.fn.model.model l.fn.version l.fn.fit.horizon
    l.best.action)
