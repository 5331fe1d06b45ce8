use Rattle.std.proofs.Common.{[], ◌∷◌, ◌++◌, codes, length, map}
use Rattle.std.specs.Fmt.{decimal}
use Rattle.std.specs.List.{flat_map, range_with_len}
use Rattle.dp_writer.specs.ModelRows.{start_row}
use Rattle.dp_writer.specs.TableText.{agent_table_lines, first_lines, start_line}
use Rattle.dp_writer.proofs.TableLines.{line_pushed, lines_behind}
use Rattle.dp_writer.proofs.table_head.push_table_head.Goals as goal

pub returns : goal.returns
returns c =
    let m = c.args.model.now in
    let agents = flat_map (agent_table_lines m) (range_with_len 0 (length m.model.actions)) in
    let end = c.push-2.new.self in
    lines_behind (first_lines m c.args.repaired) (agents ++ start_line m.model ∷ []) c.args.text.now
    c.push_first_lines.new.text end c.in_ok-push_first_lines.ensures
    (lines_behind agents (start_line m.model ∷ []) c.push_first_lines.new.text c.push_agents.new.text end
    c.in_ok-push_agents.ensures
    (line_pushed (codes "start") (map decimal (start_row m.model)) c.push_agents.new.text c.push.new.self
    c.push_cells.new.text end c.in_ok-push.ensures c.in_ok-push_cells.ensures c.in_ok-push-2.ensures))
