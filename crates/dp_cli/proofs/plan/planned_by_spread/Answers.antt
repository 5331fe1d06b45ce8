use Rattle.std.proofs.Common.{refl, pos, ap, ◌∙◌}
use Rattle.dp_words.specs.declared.job.OrderWord.TheVariants.{Spread}
use Rattle.dp_search.specs.FrontPlanning.{asked_for}
use Rattle.dp_search.specs.Rules.{KeptChooser, told_places}
use Rattle.dp_cli.specs.Orders.{order_rule}
use Rattle.dp_cli.proofs.RuledPlans.{if_also_planned, told_greatest}
use Rattle.dp_cli.proofs.plan.planned_by_spread.Goals as goal

pub returns : goal.returns
returns c =
    if_also_planned c.plan.result c.args.model.now.model _ (order_rule Spread)
    (λ places x may. told_greatest (λ p. pos p.spread) (λ p. p.spread) (λ p. refl) may.2.shown.now may.0 places x
    (may.1 ∙ ap (λ (k : KeptChooser _). told_places k.spreads places) c.new-rule.ensures)
    may.2.shows may.2.says.met)
    c.args.fit.horizon (asked_for c.args.options) c.plan.ensures.planned
