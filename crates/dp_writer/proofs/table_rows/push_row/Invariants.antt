use Rattle.std.proofs.Common.{◌≡◌, false, map}
use Rattle.dp_writer.specs.LimitedTexts.{added}
use Rattle.dp_writer.specs.WrittenLines.{words_text}
use Rattle.std.specs.Fmt.{signed_decimal}
use Rattle.dp_spec.specs.Model.{reward_at}
use Rattle.dp_writer.specs.ModelRows.{each_below}
use Rattle.dp_writer.proofs.table_rows.push_row.Given as goal

abbrev pub invariant-loop-seen : goal.invariant-loop-seen
invariant-loop-seen l =
    l.text ≡ added l.fn.text (words_text false
    (map signed_decimal (each_below (reward_at l.model.model l.action l.state l.next) l.seen)))
