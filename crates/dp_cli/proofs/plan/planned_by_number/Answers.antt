use Rattle.dp_words.specs.declared.job.OrderWord.TheVariants.{First}
use Rattle.dp_search.specs.FrontPlanning.{asked_for}
use Rattle.dp_cli.specs.Orders.{order_rule}
use Rattle.dp_cli.proofs.RuledPlans.{if_also_planned}
use Rattle.dp_cli.proofs.plan.planned_by_number.Goals as goal

pub returns : goal.returns
returns c =
    if_also_planned c.plan.result c.args.model.now.model _ (order_rule First)
    (λ places x may. may.2.says.met)
    c.args.fit.horizon (asked_for c.args.options) c.plan.ensures.planned
