use Rattle.std.proofs.Common.{◌≡◌, map, take, true}
use Rattle.dp_writer.specs.ChanceRows.{cells_of, scale_of_row}
use Rattle.dp_writer.specs.LimitedTexts.{added}
use Rattle.dp_writer.specs.WrittenLines.{words_text}
use Rattle.dp_writer.specs.WrittenModel.{chance_word}
use Rattle.dp_writer.proofs.row_text.push_chances.Given as goal

-- the chances so far
abbrev pub invariant-loop-place : goal.invariant-loop-place
invariant-loop-place l =
    l.text ≡ added l.fn.text (words_text true (map (chance_word (scale_of_row l.model.model l.row))
    (take l.place (cells_of l.model.model l.row))))
