use Rattle.std.proofs.Common.{◌∙◌, subst, ◌<◌}
use Rattle.dp_base.proofs.NaturalSumLaws.{nat_sum_none}
use Rattle.dp_links.proofs.links.may_be_seen.Goals as goal

pub returns-then-obs-ne0-clause-yes : goal.returns-then-obs-ne0-clause-yes
returns-then-obs-ne0-clause-yes c = λ _ none.
    let below = subst (λ n. c.loop-state.state < n) c.states-state-end.ensures.is c.loop-state-test.true in
    c.if-obs-ne0.true (c.obs.ensures ∙ nat_sum_none _ _ none c.loop-state.state below)
