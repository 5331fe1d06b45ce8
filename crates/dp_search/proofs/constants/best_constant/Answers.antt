use Rattle.std.proofs.Common.{rules, ◌∙◌}
use Rattle.std.specs.Int.{w128}
use Rattle.std.proofs.lemmas.Int.{to_z-of_z}
use Rattle.dp_search.specs.Constants.{constant_low_worth}
use Rattle.dp_search.proofs.constants.best_constant.Goals as goal

pub loop-action-preserved : goal.loop-action-preserved
loop-action-preserved c =
    let fit = c.args.fit in
    let worth = constant_low_worth fit.exact c.args.model.now.model c.args.version fit.horizon in
    let same = to_z-of_z w128 c.in_ok-worth.worth
    (search (rules, c.low_worth-in-loop-action.type_inv, c.in_ok-worth.is)) ∙ c.in_ok-worth.ensures in
    c.better-best.ensures.best worth c.loop-action.invariant.0 c.loop-action.invariant.1 same
