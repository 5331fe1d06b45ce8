use Rattle.std.proofs.Common.{false, refl, ap, ◌∙◌}
use Rattle.dp_words.specs.declared.job.OrderWord.TheVariants.{Heavy}
use Rattle.dp_search.specs.FrontPlanning.{asked_for}
use Rattle.dp_search.specs.Rules.{KeptChooser, told_places, without_spread}
use Rattle.dp_cli.specs.Orders.{order_rule}
use Rattle.dp_cli.proofs.RuledPlans.{greatest_untold, if_also_planned, told_greatest}
use Rattle.dp_cli.proofs.plan.planned_by_weight.Goals as goal

pub returns : goal.returns
returns c =
    if_also_planned c.plan.result c.args.model.now.model _ (order_rule Heavy)
    (λ places x may. greatest_untold without_spread (λ p. p.weight) (λ p. p.weight) (λ p. refl) places x
    (told_greatest (λ p. p.weight) (λ p. p.weight) (λ p. refl) may.2.shown.now may.0
    (told_places false places) x
    (may.1 ∙ ap (λ (k : KeptChooser _). told_places k.spreads places) c.without_spreads-rule.ensures)
    may.2.shows may.2.says.met))
    c.args.fit.horizon (asked_for c.args.options) c.plan.ensures.planned
