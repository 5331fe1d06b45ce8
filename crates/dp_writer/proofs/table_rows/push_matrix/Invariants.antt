use Rattle.std.proofs.Common.{◌≡◌}
use Rattle.dp_writer.specs.LimitedTexts.{added}
use Rattle.dp_writer.specs.ModelRows.{each_below}
use Rattle.dp_writer.specs.WrittenLines.{lines_text}
use Rattle.dp_writer.specs.TableText.{rewards_line}
use Rattle.dp_writer.proofs.table_rows.push_matrix.Given as goal

abbrev pub invariant-loop-next : goal.invariant-loop-next
invariant-loop-next l =
    l.text ≡ added l.fn.text (lines_text (each_below (rewards_line l.model.model l.action l.state) l.next))
