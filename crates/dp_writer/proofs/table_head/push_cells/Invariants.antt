use Rattle.std.proofs.Common.{◌≡◌, false, map, take}
use Rattle.dp_writer.specs.LimitedTexts.{added}
use Rattle.dp_writer.specs.WrittenLines.{words_text}
use Rattle.std.specs.Fmt.{decimal}
use Rattle.dp_writer.specs.ChanceRows.{cells_of}
use Rattle.dp_writer.proofs.table_head.push_cells.Given as goal

abbrev pub invariant-loop-place : goal.invariant-loop-place
invariant-loop-place l =
    l.text ≡ added l.fn.text
    (words_text false (map decimal (take l.place (cells_of l.model.model l.row))))
