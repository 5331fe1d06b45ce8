use Rattle.std.proofs.Common.{◌≡◌, ◌-◌, map}
use Rattle.dp_lines.specs.Scanning.{front_of}
use Rattle.dp_cert.specs.PolicyGrammar.{plain_stages}
use Rattle.dp_lines.specs.Reading.{onto}
use Rattle.dp_cert.proofs.plain_text.plain_stages.Given as goal

-- the rows so far and what the later stages say are what all say
abbrev pub invariant-loop-stage : goal.invariant-loop-stage
invariant-loop-stage l =
    front_of (plain_stages l.actions l.observations l.horizon 0 l.horizon) l.from.line l.from.rest.now
    ≡ onto (map (λ r. r.items) l.stages.items)
    (front_of (plain_stages l.actions l.observations l.horizon l.stage (l.horizon - l.stage))
    l.at.line l.at.rest.now)
