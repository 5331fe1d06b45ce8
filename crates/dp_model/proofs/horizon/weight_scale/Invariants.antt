use Rattle.std.proofs.Common.{◌≡◌, ◌*◌, ◌^◌, ◌≤◌}
use Rattle.dp_spec.specs.Model.{step_scale}
use Rattle.dp_model.proofs.horizon.weight_scale.Given as goal

abbrev pub invariant-loop-step : goal.invariant-loop-step
invariant-loop-step l = record {
  so_far : l.scale ≡ l.model.model.scales.start * step_scale l.model.model ^ l._step;
  limit : l.scale ≤ 2 ^ 126;
}
