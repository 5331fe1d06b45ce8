use Rattle.std.proofs.Common.{◌≡◌, map, true}
use Rattle.dp_spec.specs.Model.{reward_at}
use Rattle.dp_writer.specs.LimitedTexts.{added}
use Rattle.dp_writer.specs.ModelRows.{each_below}
use Rattle.dp_writer.specs.WrittenLines.{words_text}
use Rattle.dp_writer.specs.WrittenModel.{reward_word}
use Rattle.dp_writer.proofs.rewards.push_matrix_row.Given as goal

-- the rewards so far
abbrev pub invariant-loop-seen : goal.invariant-loop-seen
invariant-loop-seen l =
    l.text ≡ added l.fn.text (words_text true (map (reward_word l.model.model.scales.reward)
    (each_below (reward_at l.model.model l.action l.state l.next) l.seen)))
