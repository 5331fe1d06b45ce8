use Rattle.std.proofs.Common.{◌≡◌}
use Rattle.std.specs.List.{flat_map, range_with_len}
use Rattle.dp_writer.specs.LimitedTexts.{added}
use Rattle.dp_writer.specs.WrittenLines.{lines_text}
use Rattle.dp_writer.specs.TableText.{rewards_lines}
use Rattle.dp_writer.proofs.table_rows.push_rewards_of.Given as goal

abbrev pub invariant-loop-state : goal.invariant-loop-state
invariant-loop-state l =
    l.text ≡ added l.fn.text (lines_text
    (flat_map (rewards_lines l.model.model l.action) (range_with_len 0 l.state)))
