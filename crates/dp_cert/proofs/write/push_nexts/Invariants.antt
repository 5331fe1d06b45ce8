use Rattle.std.proofs.Common.{◌≡◌, ◌++◌, drop, false}
use Rattle.dp_lines.specs.Lines.{row_tail}
use Rattle.dp_cert.proofs.write.push_nexts.Given as goal

-- what is written and what is still to be are all
abbrev pub invariant-loop-next : goal.invariant-loop-next
invariant-loop-next l = l.text.items ++ row_tail false (drop l.next-index l.nexts) ≡ l.fn.text.items
    ++ row_tail false l.nexts
