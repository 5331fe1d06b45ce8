use Rattle.std.proofs.Common.{◌≡◌}
use Rattle.std.specs.List.{flat_map, range_with_len}
use Rattle.dp_writer.specs.LimitedTexts.{added}
use Rattle.dp_writer.specs.WrittenLines.{lines_text}
use Rattle.dp_writer.specs.WrittenModel.{reward_lines}
use Rattle.dp_writer.proofs.rewards.push_rewards.Given as goal

-- the lines so far
abbrev pub invariant-loop-action : goal.invariant-loop-action
invariant-loop-action l =
    l.text ≡ added l.fn.text (lines_text (flat_map (λ a. flat_map (reward_lines l.model.model a)
    (range_with_len 0 l.model.model.states)) (range_with_len 0 l.action)))
