use Rattle.std.proofs.Common.{◌∷◌, [], map, ap, ◌∙◌, Ok, arith}
use Rattle.std.specs.Prelude.{pos}
use Rattle.dp_spec.specs.TextLines.{fixed, plain}
use Rattle.dp_lines.proofs.LineAnswers.{line_shorter}
use Rattle.dp_lines.proofs.LineCounts.{one_number, one_is, one_inside}
use Rattle.dp_lines.proofs.TextParts.{numbers_to, numbers_bad}
use Rattle.dp_cert.proofs.lines.number.Goals as goal

pub index-requires : goal.index-requires
index-requires c =
    let n = one_number _ _ _ c.args.from.rest.now c.in-Ok.all.items c.in-Ok.rest.now c.in-Ok.ensures in
    omega (arith, n)

pub after-requires : goal.after-requires
after-requires c =
    line_shorter (fixed c.args.word.now ∷ plain c.args.range.low c.args.range.high ∷ []) c.args.from.rest.now
    (map pos c.in-Ok.all.items, c.in-Ok.rest.now) c.in-Ok.ensures

pub returns-in-Ok-clause-gives : goal.returns-in-Ok-clause-gives
returns-in-Ok-clause-gives c =
    let n = one_number _ _ _ c.args.from.rest.now c.in-Ok.all.items c.in-Ok.rest.now c.in-Ok.ensures in
    let one = one_is c.in-Ok.all.items c.index.result.now n c.index.ensures in
    numbers_to (fixed c.args.word.now ∷ plain c.args.range.low c.args.range.high ∷ [])
    c.args.from.line c.after.result.line
    c.args.from.rest.now (pos c.index.result.now ∷ []) c.in-Ok.rest.now c.after.result.rest.now
    (c.in-Ok.ensures ∙ ap (λ zs. Ok (zs, c.in-Ok.rest.now)) one) c.after.ensures.line c.after.ensures.rest

pub returns-in-Err-Bad-clause-gives : goal.returns-in-Err-Bad-clause-gives
returns-in-Err-Bad-clause-gives c =
    numbers_bad (fixed c.args.word.now ∷ plain c.args.range.low c.args.range.high ∷ [])
    c.args.from.line c.args.from.rest.now
    c.in-Err-Bad.why (rw c.in-Err-Bad.field-0-is at c.in-Err-Bad.ensures)

pub returns-in-Ok-clause-inside : goal.returns-in-Ok-clause-inside
returns-in-Ok-clause-inside c =
    let n = one_number _ _ _ c.args.from.rest.now c.in-Ok.all.items c.in-Ok.rest.now c.in-Ok.ensures in
    one_inside c.args.word.now c.args.range.low c.args.range.high c.args.from.rest.now c.in-Ok.rest.now
    c.index.result.now
    (c.in-Ok.ensures ∙ ap (λ zs. Ok (zs, c.in-Ok.rest.now)) (one_is c.in-Ok.all.items c.index.result.now n
    c.index.ensures))
