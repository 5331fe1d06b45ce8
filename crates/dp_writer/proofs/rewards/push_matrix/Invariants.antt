use Rattle.std.proofs.Common.{◌≡◌, map}
use Rattle.dp_writer.specs.LimitedTexts.{added}
use Rattle.dp_writer.specs.ModelRows.{each_below, reward_row}
use Rattle.dp_writer.specs.WrittenLines.{lines_text}
use Rattle.dp_writer.specs.WrittenModel.{reward_word}
use Rattle.dp_writer.proofs.rewards.push_matrix.Given as goal

-- the lines so far
abbrev pub invariant-loop-next : goal.invariant-loop-next
invariant-loop-next l =
    l.text ≡ added l.fn.text (lines_text (each_below (λ t. map (reward_word l.model.model.scales.reward)
    (reward_row l.model.model l.action l.state t)) l.next))
