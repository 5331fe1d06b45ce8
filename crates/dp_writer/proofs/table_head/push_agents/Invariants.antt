use Rattle.std.proofs.Common.{◌≡◌}
use Rattle.std.specs.List.{flat_map, range_with_len}
use Rattle.dp_writer.specs.LimitedTexts.{added}
use Rattle.dp_writer.specs.WrittenLines.{lines_text}
use Rattle.dp_writer.specs.TableText.{agent_table_lines}
use Rattle.dp_writer.proofs.table_head.push_agents.Given as goal

abbrev pub invariant-loop-agent : goal.invariant-loop-agent
invariant-loop-agent l =
    l.text ≡ added l.fn.text (lines_text (flat_map (agent_table_lines l.model) (range_with_len 0 l.agent)))
