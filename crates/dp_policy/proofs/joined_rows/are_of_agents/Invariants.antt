use Rattle.std.proofs.Common.{drop, map}
use Rattle.std.specs.Prelude.{◌↔◌}
use Rattle.dp_spec.specs.SharedPolicy.{AreRowsOfAgents}
use Rattle.dp_policy.proofs.joined_rows.are_of_agents.Given as goal

abbrev pub invariant-loop-agent : goal.invariant-loop-agent
invariant-loop-agent l =
    AreRowsOfAgents l.horizon l.model.model.actions l.model.model.observations
    (map (λ s. map (λ r. r.items) s.items) l.rows)
    ↔ AreRowsOfAgents l.horizon (drop l.agent l.model.model.actions) (drop l.agent l.model.model.observations)
    (drop l.agent (map (λ s. map (λ r. r.items) s.items) l.rows))
