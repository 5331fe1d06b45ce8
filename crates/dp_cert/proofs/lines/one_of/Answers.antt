use Rattle.std.proofs.Common.{ap, ◌∙◌, Err}
use Rattle.dp_lines.specs.Lines.{fixed_form}
use Rattle.dp_lines.proofs.FixedLines.{only_shape}
use Rattle.dp_lines.proofs.TextParts.{first_to, second_to, neither_bad}
use Rattle.dp_cert.proofs.lines.one_of.Goals as goal

pub returns-in-Ok : goal.returns-in-Ok
returns-in-Ok c = λ ws vs are are' joined joined'.
    first_to (fixed_form ws) (fixed_form vs) c.args.from.line c.after.result.line c.args.from.rest.now
    c.in-Ok.rest.now
    c.after.result.rest.now (c.in-Ok.ensures.is ws are joined) c.after.ensures.line c.after.ensures.rest

pub returns-in-Ok-fixed_line : goal.returns-in-Ok-fixed_line
returns-in-Ok-fixed_line c = λ ws vs are are' joined joined'.
    let bad = (rw c.in-Err-Bad.field-0-is at c.in-Err-Bad.ensures).is ws are joined in
    let shape = bad ∙ ap Err (only_shape ws c.args.from.rest.now _ bad) in
    second_to (fixed_form ws) (fixed_form vs) c.args.from.line c.after-in-Ok-fixed_line.result.line
    c.args.from.rest.now
    c.in-Ok-fixed_line.rest.now c.after-in-Ok-fixed_line.result.rest.now shape
    (c.in-Ok-fixed_line.ensures.is vs are' joined')
    c.after-in-Ok-fixed_line.ensures.line c.after-in-Ok-fixed_line.ensures.rest

pub returns-in-Err-Bad-fixed_line : goal.returns-in-Err-Bad-fixed_line
returns-in-Err-Bad-fixed_line c = λ ws vs are are' joined joined'.
    let bad = (rw c.in-Err-Bad.field-0-is at c.in-Err-Bad.ensures).is ws are joined in
    let shape = bad ∙ ap Err (only_shape ws c.args.from.rest.now _ bad) in
    let other = (rw c.in-Err-Bad-fixed_line.field-0-is at c.in-Err-Bad-fixed_line.ensures).is vs are' joined' in
    neither_bad (fixed_form ws) (fixed_form vs) c.args.from.line c.args.from.rest.now
    c.in-Err-Bad-fixed_line.why
    shape other
