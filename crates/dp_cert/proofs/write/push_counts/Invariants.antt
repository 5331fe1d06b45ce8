use Rattle.std.proofs.Common.{◌≡◌, ◌++◌, drop, map, length, false}
use Rattle.dp_lines.specs.Lines.{row_tail}
use Rattle.dp_cert.proofs.write.push_counts.Given as goal

-- what is written and what is still to be are all
abbrev pub invariant-loop-rows : goal.invariant-loop-rows
invariant-loop-rows l = l.text.items ++ row_tail false (map (λ r. length r.items) (drop l.rows-index l.stages))
    ≡ l.fn.text.items ++ row_tail false (map (λ r. length r.items) l.stages)
