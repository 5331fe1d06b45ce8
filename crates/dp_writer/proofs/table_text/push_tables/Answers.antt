use Rattle.std.proofs.Common.{[], ◌∷◌, ◌++◌, codes, length, ap, ◌∙◌, append_assoc}
use Rattle.std.specs.List.{flat_map, range_with_len}
use Rattle.dp_writer.specs.declared.rows.ChanceTable.TheVariants.{Next, Seen}
use Rattle.dp_writer.specs.TableText.{agent_table_lines, chances_lines, first_lines, rewards_lines, start_line}
use Rattle.dp_writer.specs.TableText.{table_lines}
use Rattle.dp_writer.specs.TableText.{table_text}
use Rattle.dp_writer.specs.WrittenLines.{lines_text}
use Rattle.dp_writer.specs.WrittenModel.{lines_by_state}
use Rattle.dp_writer.proofs.Appending.{spelled}
use Rattle.dp_writer.proofs.TableLines.{lines_behind}
use Rattle.dp_writer.proofs.table_text.push_tables.Goals as goal

pub returns : goal.returns
unfolding table_text table_lines
returns c =
    let m = c.args.model.now in
    let agents = flat_map (agent_table_lines m) (range_with_len 0 (length m.model.actions)) in
    let next = lines_by_state m.model (chances_lines m.model Next) in
    let seen = lines_by_state m.model (chances_lines m.model Seen) in
    let rewards = lines_by_state m.model (rewards_lines m.model) in
    let t1 = c.push_table_head.new.text in
    let t2 = c.push_chances.new.text in
    let t3 = c.push_chances-2.new.text in
    let t4 = c.push_rewards.new.text in
    let t5 = c.push.new.self in
    let first = first_lines m c.args.repaired in
    let start = start_line m.model in
    let rest = next ++ (seen ++ (rewards ++ (codes "end" ∷ []) ∷ [])) in
    let all = lines_behind (first ++ (agents ++ start ∷ [])) rest c.args.text.now t1 t5
    c.in_ok-push_table_head.ensures
    (lines_behind next (seen ++ (rewards ++ (codes "end" ∷ []) ∷ [])) t1 t2 t5 c.in_ok-push_chances.ensures
    (lines_behind seen (rewards ++ (codes "end" ∷ []) ∷ []) t2 t3 t5 c.in_ok-push_chances-2.ensures
    (lines_behind rewards ((codes "end" ∷ []) ∷ []) t3 t4 t5 c.in_ok-push_rewards.ensures c.in_ok-push.ensures))) in
    spelled c.args.text.now t5 _ _
    (ap lines_text (append_assoc first (agents ++ start ∷ []) rest
    ∙ ap (λ l. first ++ l) (append_assoc agents (start ∷ []) rest)))
    all
