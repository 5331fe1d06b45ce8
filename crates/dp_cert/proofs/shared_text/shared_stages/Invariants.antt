use Rattle.std.proofs.Common.{◌≡◌, drop, map}
use Rattle.dp_lines.specs.Scanning.{front_of}
use Rattle.dp_cert.specs.PolicyGrammar.{shared_stages}
use Rattle.dp_lines.specs.Reading.{onto}
use Rattle.dp_cert.proofs.shared_text.shared_stages.Given as goal

-- the stages so far and what the later ones say are what all say
abbrev pub invariant-loop-stage : goal.invariant-loop-stage
invariant-loop-stage l =
    front_of (shared_stages l.actions l.observations l.counts) l.from.line l.from.rest.now
    ≡ onto (map (λ r. r.items) l.stages.items)
    (front_of (shared_stages l.actions l.observations (drop l.stage l.counts)) l.at.line l.at.rest.now)
