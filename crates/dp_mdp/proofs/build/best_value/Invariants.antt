use Rattle.std.proofs.Common.{◌≡◌}
use Rattle.dp_base.specs.Sums.{greatest, numbers_below}
use Rattle.dp_mdp.specs.Building.{action_value}
use Rattle.dp_mdp.proofs.build.best_value.Given as goal

abbrev pub invariant-loop-action : goal.invariant-loop-action
invariant-loop-action g l = l.best ≡ greatest (action_value (g.A.Arith.operations l.arith)
    l.model.model l.rest l.state) (numbers_below l.action)
