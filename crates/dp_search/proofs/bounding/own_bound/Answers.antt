use Rattle.std.proofs.Common.{rules, Bool, sym, ap, ◌∙◌}
use Rattle.std.specs.Int.{w128}
use Rattle.std.proofs.lemmas.Int.{to_z-of_z}
use Rattle.dp_spec.specs.declared.span.Span.{Span}
use Rattle.dp_spec.specs.Arithmetic.{arithmetic}
use Rattle.dp_spec.specs.Fitting.{front_bound}
use Rattle.dp_search.proofs.FrontSteps.{full_bound}
use Rattle.dp_search.proofs.bounding.own_bound.Goals as goal

pub returns-then-stage-horizon-clause-is : goal.returns-then-stage-horizon-clause-is
returns-then-stage-horizon-clause-is c =
    let m = c.args.model.now.model in
    let front = c.args.front.now in
    let full = sym c.stage.ensures ∙ c.if-stage-horizon.true ∙ c.horizon.ensures in
    to_z-of_z w128 c.copied.result (search (rules, c.copied.type_inv)) ∙ c.copied.ensures
    ∙ ap (λ (w : Span). w.high) (c.earned.ensures.is m c.requires.front.of_model)
    ∙ sym (full_bound (arithmetic front.is_exact m.scales) m front.horizon c.args.bounder.now.look
    front.front full)

pub returns-clause-is : goal.returns-clause-is
returns-clause-is c =
    let m = c.args.model.now.model in
    let front = c.args.front.now in
    let look = c.args.bounder.now.look in
    to_z-of_z w128 c.bound-bound.result (search (rules, c.bound-bound.type_inv))
    ∙ c.bound-bound.ensures.of_front m front.horizon look front.front c.in_ok-game.ensures.is
    ∙ ap (λ (e : Bool). front_bound (arithmetic e m.scales) m front.horizon look front.front)
    (sym c.requires.front.of_model.mode)
