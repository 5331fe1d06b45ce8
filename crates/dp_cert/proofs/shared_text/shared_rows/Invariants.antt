use Rattle.std.proofs.Common.{◌≡◌, ◌-◌}
use Rattle.dp_lines.specs.Lines.{plain_form}
use Rattle.dp_lines.specs.Scanning.{front_of}
use Rattle.dp_cert.specs.PolicyGrammar.{rows_of_form}
use Rattle.dp_lines.specs.Reading.{onto}
use Rattle.dp_cert.proofs.shared_text.shared_rows.Given as goal

-- the rows so far and what the later lines say are what all say
abbrev pub invariant-loop-row : goal.invariant-loop-row
invariant-loop-row l =
    front_of (rows_of_form (plain_form l.ranges) l.count) l.from.line l.from.rest.now
    ≡ onto l.rows.items (front_of (rows_of_form (plain_form l.ranges) (l.count - l._row))
    l.at.line l.at.rest.now)
