use Rattle.std.proofs.Common.{◌≡◌, drop, map}
use Rattle.dp_lines.specs.Scanning.{front_of}
use Rattle.dp_cert.specs.PolicyGrammar.{plain_agents}
use Rattle.dp_lines.specs.Reading.{onto}
use Rattle.dp_cert.proofs.plain_text.plain_agents.Given as goal

-- the agents so far and what the later ones say are what all say
abbrev pub invariant-loop-agent : goal.invariant-loop-agent
invariant-loop-agent l =
    front_of (plain_agents l.horizon 0 l.model.model.actions l.model.model.observations)
    l.from.line l.from.rest.now
    ≡ onto (map (λ s. map (λ r. r.items) s.items) l.agents.items)
    (front_of (plain_agents l.horizon l.agent (drop l.agent l.model.model.actions)
    (drop l.agent l.model.model.observations)) l.at.line l.at.rest.now)
