use Rattle.std.proofs.Common.{◌≡◌, ◌+◌, ◌*◌, ◌^◌, ◌≤◌, drop}
use Rattle.dp_spec.specs.Mode.{own_history_count}
use Rattle.dp_model.proofs.horizon.own_histories.Given as goal

abbrev pub invariant-loop-agent : goal.invariant-loop-agent
invariant-loop-agent l = record {
  so_far : l.count + own_history_count (drop l.agent l.model.model.observations) l.horizon
      ≡ own_history_count l.model.model.observations l.horizon;
  limit : l.count ≤ l.agent * 2 ^ 124;
}
