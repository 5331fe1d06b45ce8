use Rattle.std.proofs.Common.{◌+◌, ◌∙◌, arith}
use Rattle.dp_model.proofs.HorizonLemmas.{next_scale, scale_before}
use Rattle.dp_model.proofs.horizon.weight_scale.Goals as goal

pub returns-in-None : goal.returns-in-None
returns-in-None c =
    let next = next_scale c.args.model.now.model c.scales-scales.result c.loop-step._step c.loop-step.scale
    c.scales-scales.ensures c.loop-step.invariant.so_far in
    λ le. c.in-None.ensures (rw next (scale_before c.args.model.now.model c.invariant.ensures.model
    (c.loop-step._step + 1) c.args.steps (omega arith) le))

pub loop-step-preserved : goal.loop-step-preserved
loop-step-preserved c =
    let next = next_scale c.args.model.now.model c.scales-scales.result c.loop-step._step c.loop-step.scale
    c.scales-scales.ensures c.loop-step.invariant.so_far in
    record { so_far = c.in-Some.ensures.1 ∙ next; limit = rw c.in-Some.ensures.1 c.in-Some.ensures.0 }
