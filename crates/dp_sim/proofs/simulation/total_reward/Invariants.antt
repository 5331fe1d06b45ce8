use Rattle.std.proofs.Common.{◌≡◌, ◌*◌, ◌^◌, ◌≤◌, drop}
use Rattle.std.specs.Prelude.{◌+ℤ◌, unsigned_abs}
use Rattle.dp_sim.specs.Traces.{total_reward}
use Rattle.dp_sim.proofs.simulation.total_reward.Given as goal

abbrev pub invariant-loop-step : goal.invariant-loop-step
invariant-loop-step l = record {
  summed : total_reward l.steps ≡ l.total +ℤ total_reward (drop l.step-index l.steps);
  small : unsigned_abs l.total ≤ l.step-index * 2 ^ 63;
}
