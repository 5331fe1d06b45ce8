use Rattle.std.proofs.Common.{◌≡◌, false, map, take}
use Rattle.dp_writer.specs.LimitedTexts.{added}
use Rattle.dp_writer.specs.WrittenLines.{words_text}
use Rattle.std.specs.List.{range_with_len}
use Rattle.dp_writer.specs.GivenLists.{count_in, names_in}
use Rattle.dp_writer.specs.TableText.{name_word}
use Rattle.dp_writer.proofs.table_head.push_names.Given as goal

abbrev pub invariant-loop-place : goal.invariant-loop-place
invariant-loop-place l =
    l.text ≡ added l.fn.text (words_text false
    (map (name_word (names_in l.model.names l.list)) (take l.place (range_with_len 0 (count_in l.model l.list)))))
