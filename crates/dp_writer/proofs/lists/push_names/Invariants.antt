use Rattle.std.proofs.Common.{◌≡◌, map, take}
use Rattle.dp_writer.specs.GivenLists.{names_in}
use Rattle.dp_writer.specs.LimitedTexts.{added}
use Rattle.dp_writer.specs.WrittenLines.{words_text}
use Rattle.dp_writer.proofs.lists.push_names.Given as goal

-- the names so far
abbrev pub invariant-loop-place : goal.invariant-loop-place
invariant-loop-place l =
    l.text ≡ added l.fn.text (words_text l.first (map (λ n. n) (take l.place (names_in l.names l.list))))
