use Rattle.std.proofs.Common.{[], ◌∷◌, codes}
use Rattle.std.specs.Prelude.{slice_index}
use Rattle.dp_model.specs.Names.{names_of}
use Rattle.dp_writer.specs.TableText.{name_word, name_words}
use Rattle.dp_writer.specs.WrittenLines.{Words}
use Rattle.dp_writer.proofs.TableLines.{lines_behind, name_pushed}
use Rattle.dp_writer.proofs.table_head.push_agent.Goals as goal

pub returns : goal.returns
returns c =
    let m = c.args.model.now in
    let i = c.args.agent in
    let name = name_word m.names.agents i in
    let actions : Words = codes "actions" ∷ name_words (names_of m.names.actions i) (slice_index m.model.actions i) in
    let seen : Words =
    codes "observations" ∷ name_words (names_of m.names.observations i) (slice_index m.model.observations i) in
    let first = c.push-2.new.self in
    let end = c.push_names_line-2.new.text in
    lines_behind ((codes "agent" ∷ name ∷ []) ∷ []) (actions ∷ seen ∷ []) c.args.text.now first end
    (name_pushed name c.args.text.now c.push.new.self c.push_name.new.text first c.in_ok-push.ensures
    c.in_ok-push_name.ensures c.in_ok-push-2.ensures)
    (lines_behind (actions ∷ []) (seen ∷ []) first c.push_names_line.new.text end c.in_ok-push_names_line.ensures
    c.in_ok-push_names_line-2.ensures)
