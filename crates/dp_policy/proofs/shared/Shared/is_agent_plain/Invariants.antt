use Rattle.std.proofs.Common.{◌≡◌, ◌^◌, ◌≤◌, [], get_or}
use Rattle.dp_policy.proofs.PlainStages.{ArePlainBefore}
use Rattle.dp_policy.proofs.shared.Shared.is_agent_plain.Given as goal

abbrev pub invariant-loop-stage : goal.invariant-loop-stage
invariant-loop-stage l = record {
  before : ArePlainBefore l.observations l.self.horizon l.stage (get_or l.self.rows l.agent []);
  count : l.count ≡ l.observations ^ l.stage;
  few : l.count ≤ 2 ^ 30;
}
