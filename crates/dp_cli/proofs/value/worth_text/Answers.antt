use Rattle.std.proofs.Common.{◌≡◌, ◌++◌, true, false, codes, ap, to_z, of_z, ◌∙◌, unsigned_abs, ◌<◌, ◌^◌, arith, ℤ}
use Rattle.std.proofs.lemmas.Int.{fits_signed_from_abs, ints, to_z-of_z}
use Rattle.std.specs.Int.{w128}
use Rattle.dp_cli.specs.ValueCommand.{end_text, head_text}
use Rattle.dp_cli.proofs.ValueTexts.{worth_pushed}
use Rattle.dp_cli.proofs.value.worth_text.Goals as goal

-- a number that is small enough is read back
back : (z : ℤ) → unsigned_abs z < 2 ^ 127 → to_z w128 (of_z w128 z) ≡ z
back z small = to_z-of_z w128 z (fits_signed_from_abs w128 z small)

pub returns : goal.returns
returns c =
    let w = c.args.worth in
    let low = back w.low (omega (arith, c.requires.low)) in
    let high = back w.high (omega (arith, c.requires.high)) in
    let unit = back w.unit (omega (arith, ints, c.requires.some, c.requires.unit)) in
    worth_pushed _ c.push_head.new.text.items c.push_end.new.text.items c.push_end-2.new.text.items
    (head_text c.args.repaired c.args.exact w.unit) (end_text (codes "low ") w.low w.unit false)
    (end_text (codes "high ") w.high w.unit true)
    c.new-text.ensures.items
    (c.in_ok-push_head.ensures ∙ ap (λ u. c.new-text.result.items
    ++ head_text c.args.repaired c.args.exact u) unit)
    (c.in_ok-push_end.ensures ∙ (λ i. c.push_head.new.text.items
    ++ end_text (codes "low ") (low i) (unit i) false))
    (c.in_ok-push_end-2.ensures ∙ (λ i. c.push_end.new.text.items
    ++ end_text (codes "high ") (high i) (unit i) true))
