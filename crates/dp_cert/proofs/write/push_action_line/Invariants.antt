use Rattle.std.proofs.Common.{◌≡◌, ◌++◌, drop, map, true}
use Rattle.dp_lines.specs.Lines.{row_tail}
use Rattle.dp_cert.proofs.write.push_action_line.Given as goal

-- what is written and what is still to be are all
abbrev pub invariant-loop-row : goal.invariant-loop-row
invariant-loop-row l = l.text.items ++ row_tail l.first (map (λ r. r.action) (drop l.row-index l.rows))
    ≡ l.fn.text.items ++ row_tail true (map (λ r. r.action) l.rows)
