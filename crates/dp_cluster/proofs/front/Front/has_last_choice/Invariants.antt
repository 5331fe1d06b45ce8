use Rattle.std.proofs.Common.{◌≡◌, ◌+◌, ◌*◌, ◌^◌, ◌≤◌, drop}
use Rattle.dp_spec.specs.Wide.{unassigned_count}
use Rattle.dp_cluster.proofs.front.Front.has_last_choice.Given as goal

abbrev pub invariant-loop-agent : goal.invariant-loop-agent
invariant-loop-agent l =
    (l.count + unassigned_count (drop l.agent l.self.front.agents) ≡ unassigned_count l.self.front.agents)
    × (l.count ≤ l.agent * 2 ^ 32)
