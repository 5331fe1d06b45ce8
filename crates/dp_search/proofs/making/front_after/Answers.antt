use Rattle.std.proofs.Common.{◌≡◌, ◌∙◌, ap, rules}
use Rattle.dp_cluster.specs.KeptFronts.{KeptFront}
use Rattle.dp_search.proofs.MadeSteps.{same_next}
use Rattle.dp_search.proofs.making.front_after.Goals as goal

pub returns-clause-front : goal.returns-clause-front
returns-clause-front c = ap (λ (f : KeptFront). f.front) c.in_ok-new.ensures.ok ∙ c.in_ok-next.ensures.front

pub returns-clause-same : goal.returns-clause-same
returns-clause-same c on =
    let next = c.in_ok-new.field-0.value in
    let made : next ≡ c.in_ok-next.next = c.in_ok-new.ensures.ok in
    let own : c.in_ok-next.next.front.stage ≡ c.args.front.now.front.stage =
    search (rules, on, c.stage.ensures, c.stage-2.ensures) in
    same_next c.args.model.now.model c.args.front.now next c.args.choice (returns-clause-front c)
    (ap (λ (f : KeptFront). f.front.stage) made ∙ own)
