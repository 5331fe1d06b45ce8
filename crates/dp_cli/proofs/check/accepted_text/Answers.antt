use Rattle.std.proofs.Common.{◌≡◌, ◌++◌, true, false, codes, ap, to_z, of_z, ◌∙◌, unsigned_abs, ◌<◌, ◌^◌, arith, ℤ}
use Rattle.std.proofs.lemmas.Int.{fits_signed_from_abs, ints, to_z-of_z}
use Rattle.std.specs.Int.{w128}
use Rattle.dp_cli.specs.CheckCommand.{counts_text, quality_text}
use Rattle.dp_cli.specs.ValueCommand.{end_text}
use Rattle.dp_cli.proofs.Checks.{accepted_pushed}
use Rattle.dp_cli.proofs.check.accepted_text.Goals as goal

-- a number that is small enough is read back
back : (z : ℤ) → unsigned_abs z < 2 ^ 127 → to_z w128 (of_z w128 z) ≡ z
back z small = to_z-of_z w128 z (fits_signed_from_abs w128 z small)

pub returns : goal.returns
returns c =
    let w = c.args.cert.now in
    let q = c.args.qualities in
    let lower = back w.lower (omega (arith, c.requires.lower)) in
    let upper = back w.upper (omega (arith, c.requires.upper)) in
    let unit = back w.unit (omega (arith, ints, c.requires.some, c.requires.unit)) in
    accepted_pushed c.new-text.result.items c.extend_from_slice.new.self.items c.push_quality.new.text.items
    c.push_quality-2.new.text.items c.push_quality-3.new.text.items c.push_counts.new.text.items
    c.push_end.new.text.items c.push_end-2.new.text.items
    (codes "accepted\n") (quality_text (codes "closed ") q.closed) (quality_text (codes "lean ") q.lean)
    (quality_text (codes "merged ") q.merged) (counts_text c.args.repaired w.unit)
    (end_text (codes "lower ") w.lower w.unit false) (end_text (codes "upper ") w.upper w.unit true)
    c.new-text.ensures.items
    c.in_ok-extend_from_slice.ensures.items
    c.in_ok-push_quality.ensures
    c.in_ok-push_quality-2.ensures
    c.in_ok-push_quality-3.ensures
    (c.in_ok-push_counts.ensures ∙ ap (λ u. c.push_quality-3.new.text.items ++ counts_text c.args.repaired u)
    unit)
    (c.in_ok-push_end.ensures ∙
    (λ i. c.push_counts.new.text.items ++ end_text (codes "lower ") (lower i) (unit i) false))
    (c.in_ok-push_end-2.ensures ∙
    (λ i. c.push_end.new.text.items ++ end_text (codes "upper ") (upper i) (unit i) true))
