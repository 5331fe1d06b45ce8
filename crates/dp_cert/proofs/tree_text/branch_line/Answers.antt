use Rattle.std.proofs.Common.{arith, ap, ◌∙◌, Ok}
use Rattle.dp_lines.proofs.LineCounts.{three_numbers, three_are}
use Rattle.dp_cert.proofs.tree_text.branch_line.Goals as goal

pub index-requires : goal.index-requires
index-requires c = let n = three_numbers _ _ _ _ _ _ _ c.args.bytes.now c.in-Ok.parts.items c.in-Ok.rest.now
    c.in-Ok.ensures in omega (arith, n)

pub index-requires-in-Ok : goal.index-requires-in-Ok
index-requires-in-Ok c = let n = three_numbers _ _ _ _ _ _ _ c.args.bytes.now c.in-Ok.parts.items
    c.in-Ok.rest.now
    c.in-Ok.ensures in omega (arith, n)

pub index-requires-in-Ok-2 : goal.index-requires-in-Ok-2
index-requires-in-Ok-2 c = let n = three_numbers _ _ _ _ _ _ _ c.args.bytes.now c.in-Ok.parts.items
    c.in-Ok.rest.now c.in-Ok.ensures in omega (arith, n)

pub returns-in-Ok-clause-gives : goal.returns-in-Ok-clause-gives
returns-in-Ok-clause-gives c =
    let n = three_numbers _ _ _ _ _ _ _ c.args.bytes.now c.in-Ok.parts.items c.in-Ok.rest.now c.in-Ok.ensures in
    c.in-Ok.ensures ∙ ap (λ zs. Ok (zs, c.in-Ok.rest.now)) (three_are c.in-Ok.parts.items c.index.result.now
    c.index-in-Ok.result.now c.index-in-Ok-2.result.now n c.index.ensures c.index-in-Ok.ensures
    c.index-in-Ok-2.ensures)
