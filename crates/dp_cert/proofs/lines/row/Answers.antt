use Rattle.std.proofs.Common.{map}
use Rattle.std.specs.Prelude.{pos}
use Rattle.dp_lines.specs.Lines.{plain_form}
use Rattle.dp_lines.proofs.LineAnswers.{line_shorter}
use Rattle.dp_lines.proofs.LineCounts.{row_count}
use Rattle.dp_lines.proofs.TextParts.{numbers_to, numbers_bad}
use Rattle.dp_cert.proofs.lines.row.Goals as goal

pub after-requires : goal.after-requires
after-requires c =
    line_shorter (plain_form c.args.ranges.now) c.args.from.rest.now
    ((map pos c.in-Ok.numbers.items), c.in-Ok.rest.now)
    c.in-Ok.ensures

pub returns-in-Ok-clause-gives : goal.returns-in-Ok-clause-gives
returns-in-Ok-clause-gives c =
    numbers_to (plain_form c.args.ranges.now) c.args.from.line c.after.result.line c.args.from.rest.now
    (map pos c.in-Ok.numbers.items) c.in-Ok.rest.now c.after.result.rest.now
    c.in-Ok.ensures c.after.ensures.line c.after.ensures.rest

pub returns-in-Err-Bad-clause-gives : goal.returns-in-Err-Bad-clause-gives
returns-in-Err-Bad-clause-gives c =
    numbers_bad (plain_form c.args.ranges.now) c.args.from.line c.args.from.rest.now
    c.in-Err-Bad.why (rw c.in-Err-Bad.field-0-is at c.in-Err-Bad.ensures)

pub returns-in-Ok-clause-count : goal.returns-in-Ok-clause-count
returns-in-Ok-clause-count c =
    row_count c.args.ranges.now c.args.from.rest.now c.in-Ok.numbers.items c.in-Ok.rest.now c.in-Ok.ensures
