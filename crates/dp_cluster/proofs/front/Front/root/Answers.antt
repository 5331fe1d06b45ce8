use Rattle.std.proofs.Common.{ap, ◌∙◌}
use Rattle.dp_cluster.proofs.KeptFronts.{root_front_is, root_kept, root_stored}
use Rattle.dp_cluster.proofs.front.Front.root.Goals as goal

pub invariant_of-result : goal.invariant_of-result
invariant_of-result c =
    root_stored c.args.m.now.model c.invariant.ensures.model c.args.fit.horizon c.requires.horizon.0
    c.requires.horizon.1 c.args.fit.exact c.requires.mode c.states.result c.states.ensures.is _
    c.in_ok-root_parts.ensures _ (ap (λ v. v.items) c.in_ok-new.ensures.ok ∙ c.in_ok-weights.ensures)

pub returns-clause-front : goal.returns-clause-front
returns-clause-front c = root_front_is c.args.m.now.model c.invariant.ensures.model _ c.in_ok-root_parts.ensures

pub returns-clause-of_model : goal.returns-clause-of_model
returns-clause-of_model c =
    root_kept c.args.m.now.model c.invariant.ensures.model c.args.fit.horizon c.requires.horizon.0
    c.requires.horizon.1 c.args.fit.exact c.requires.mode c.states.result c.states.ensures.is _
    c.in_ok-root_parts.ensures _ (ap (λ v. v.items) c.in_ok-new.ensures.ok ∙ c.in_ok-weights.ensures)
