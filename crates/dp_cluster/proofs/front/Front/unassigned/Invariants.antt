use Rattle.std.proofs.Common.{◌≡◌, ◌+◌, ◌≤◌, drop, get_or}
use Rattle.dp_spec.specs.Steps.{root_agent}
use Rattle.dp_spec.specs.Wide.{none_count}
use Rattle.dp_cluster.proofs.front.Front.unassigned.Given as goal

abbrev pub invariant-loop-class : goal.invariant-loop-class
invariant-loop-class l =
    (l.count + none_count (drop l.class (get_or l.self.front.agents l.agent root_agent).chosen)
    ≡ none_count (get_or l.self.front.agents l.agent root_agent).chosen)
    × (l.count ≤ l.class)
