use Rattle.std.proofs.Common.{◌≡◌, false, map, take}
use Rattle.dp_writer.specs.LimitedTexts.{added}
use Rattle.dp_writer.specs.WrittenLines.{words_text}
use Rattle.std.specs.Fmt.{decimal}
use Rattle.dp_writer.proofs.table_head.push_numbers.Given as goal

abbrev pub invariant-loop-number : goal.invariant-loop-number
invariant-loop-number l =
    l.text ≡ added l.fn.text (words_text false (map decimal (take l.number-index l.numbers)))
