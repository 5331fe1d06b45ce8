use Rattle.dp_writer.specs.GivenLists.{count_in, names_in}
use Rattle.dp_writer.specs.TableText.{name_words}
use Rattle.dp_writer.proofs.TableLines.{line_pushed}
use Rattle.dp_writer.proofs.table_head.push_names_line.Goals as goal

pub returns : goal.returns
returns c =
    let m = c.args.model.now in
    line_pushed c.args.word.now (name_words (names_in m.names c.args.list) (count_in m c.args.list)) c.args.text.now
    c.push.new.self c.push_names.new.text c.push-2.new.self c.in_ok-push.ensures c.in_ok-push_names.ensures
    c.in_ok-push-2.ensures
