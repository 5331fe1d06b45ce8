use Rattle.std.proofs.Common.{◌≡◌, ◌∙◌, arith, rules, ap}
use Rattle.std.specs.Int.{w128}
use Rattle.std.proofs.lemmas.Int.{to_z-of_z}
use mir.Val.{SFits}
use Rattle.dp_spec.specs.declared.span.Span.{Span}
use Rattle.dp_check.proofs.FrontBounds.{earned_bound}
use Rattle.dp_check.proofs.bounds.front_bound.Goals as goal

pub returns-then-stage-bounds : goal.returns-then-stage-bounds
returns-then-stage-bounds c =
    let fits : SFits w128 c.earned.result.high = search (rules, c.earned.type_inv) in
    let at_end : c.args.front.now.front.stage ≡ c.args.bounds.now.fit.horizon = omega
    (arith, c.stage.ensures, c.if-stage-bounds.true) in
    to_z-of_z w128 _ fits ∙ ap (λ (w : Span). w.high) c.earned.ensures.kept
    ∙ earned_bound c.args.m.now.model c.args.bounds.now c.requires.bounds c.args.front.now c.requires.front
    at_end
