use Rattle.std.proofs.Common.{rules, ◌∷◌, [], sym, ap, ◌∙◌, Ok}
use Rattle.std.specs.Int.{w128}
use Rattle.std.proofs.lemmas.Int.{to_z-of_z}
use Rattle.dp_spec.specs.TextLines.{fixed, signed}
use Rattle.dp_lines.proofs.LineAnswers.{line_shorter}
use Rattle.dp_lines.proofs.TextParts.{numbers_to, numbers_bad}
use Rattle.dp_lines.specs.Reading.{rest_at}
use Rattle.dp_cert.proofs.lines.with_sign.Goals as goal

pub after-requires : goal.after-requires
after-requires c =
    line_shorter (fixed c.args.word.now ∷ signed ∷ []) c.args.from.rest.now
    ((c.in-Ok.number ∷ []), c.in-Ok.rest.now)
    c.in-Ok.ensures

pub returns-in-Ok : goal.returns-in-Ok
returns-in-Ok c =
    numbers_to (fixed c.args.word.now ∷ signed ∷ []) c.args.from.line c.after.result.line c.args.from.rest.now
    (c.in-Ok.number ∷ []) c.in-Ok.rest.now c.after.result.rest.now c.in-Ok.ensures c.after.ensures.line
    c.after.ensures.rest
    ∙ ap (λ z. Ok (rest_at (z ∷ []) c.after.result.line c.after.result.rest.now))
    (sym (to_z-of_z w128 c.in-Ok.number (search (rules, c.signed_line.type_inv))))

pub returns-in-Err-Bad : goal.returns-in-Err-Bad
returns-in-Err-Bad c =
    numbers_bad (fixed c.args.word.now ∷ signed ∷ []) c.args.from.line c.args.from.rest.now
    c.in-Err-Bad.why (rw c.in-Err-Bad.field-0-is at c.in-Err-Bad.ensures)
