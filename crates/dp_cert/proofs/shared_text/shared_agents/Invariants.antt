use Rattle.std.proofs.Common.{◌≡◌, ◌^◌, ◌≤◌, ℕ, drop, map, length}
use Rattle.std.specs.List.{AllByRecursion}
use Rattle.std.specs.Prelude.{replicate}
use Rattle.dp_lines.specs.Scanning.{front_of}
use Rattle.dp_cert.specs.PolicyGrammar.{shared_agents}
use Rattle.dp_lines.specs.Reading.{onto}
use Rattle.dp_cert.proofs.shared_text.shared_agents.Given as goal

-- the agents so far and what the later ones say are what all say
abbrev pub invariant-loop-agent : goal.invariant-loop-agent
invariant-loop-agent l = record {
  same : front_of (shared_agents l.horizon 0 (replicate l.horizon l.model.model.states)
      l.model.model.actions l.model.model.observations)
      l.from.line l.from.rest.now
      ≡ onto (map (λ s. map (λ r. r.items) s.items) l.agents.items)
      (front_of (shared_agents l.horizon l.agent l.cells.items (drop l.agent l.model.model.actions)
      (drop l.agent l.model.model.observations))
      l.at.line l.at.rest.now);
  count : length l.cells.items ≡ l.horizon;
  few : AllByRecursion (λ (k : ℕ). k ≤ 2 ^ 22) l.cells.items;
}
