use Rattle.dp_lines.proofs.TextParts.{words_to, words_bad}
use Rattle.dp_cert.proofs.lines.words.Goals as goal

pub returns-in-Ok : goal.returns-in-Ok
returns-in-Ok c = λ ws are joined.
    words_to ws c.args.from.line c.after.result.line c.args.from.rest.now c.in-Ok.rest.now
    c.after.result.rest.now
    (c.in-Ok.ensures.is ws are joined) c.after.ensures.line c.after.ensures.rest

pub returns-in-Err-Bad : goal.returns-in-Err-Bad
returns-in-Err-Bad c = λ ws are joined.
    words_bad ws c.args.from.line c.args.from.rest.now c.in-Err-Bad.why
    (let bad = rw c.in-Err-Bad.field-0-is at c.in-Err-Bad.ensures in bad.is ws are joined)
