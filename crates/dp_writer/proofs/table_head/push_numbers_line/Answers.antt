use Rattle.std.proofs.Common.{map}
use Rattle.std.specs.Fmt.{decimal}
use Rattle.dp_writer.proofs.TableLines.{line_pushed}
use Rattle.dp_writer.proofs.table_head.push_numbers_line.Goals as goal

pub returns : goal.returns
returns c =
    line_pushed c.args.word.now (map decimal c.args.numbers.now) c.args.text.now c.push.new.self
    c.push_numbers.new.text c.push-2.new.self c.in_ok-push.ensures c.in_ok-push_numbers.ensures
    c.in_ok-push-2.ensures
