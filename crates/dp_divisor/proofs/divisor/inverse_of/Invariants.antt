use Rattle.std.proofs.Common.{◌≡◌, ◌*◌, ◌%◌, ◌^◌}
use Rattle.dp_divisor.proofs.divisor.inverse_of.Given as goal

abbrev pub invariant-loop-step : goal.invariant-loop-step
invariant-loop-step l = l.odd * l.inverse % 2 ^ 2 ^ l._step ≡ 1
