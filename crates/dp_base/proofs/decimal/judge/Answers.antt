use Rattle.std.proofs.Common.{◌≡◌, ◌+◌, ◌-◌, ◌*◌, ◌^◌, Bool, true, false, ap, sym, refl, ◌∙◌, arith, rules, pos}
use Rattle.std.specs.Int.{w128}
use Rattle.std.proofs.lemmas.Int.{to_z-of_z}
use Rattle.dp_base.specs.Decimals.{signed}
use Rattle.dp_base.proofs.Shortest.{at_zero, at_whole, at_fraction, large_whole, ok_whole, whole_fits, large_fraction}
use Rattle.dp_base.proofs.Shortest.{digits_fraction, ok_fraction, fraction_fits, ok_zero, ok_of}
use Rattle.dp_base.proofs.decimal.judge.Goals as goal

-- zero is the same with each sign
no_sign : (negative : Bool) → pos 0 ≡ signed negative 0
no_sign true = refl
no_sign false = refl

pub returns-then-seen-eq0 : goal.returns-then-seen-eq0
returns-then-seen-eq0 c = λ ds seen.
    rw (at_zero ds c.args.seen c.args.negative c.args.numerator_tens c.args.denominator_tens c.if-seen-eq0.true seen)
    (ok_of c.args.negative 0 0 (pos 0) (no_sign c.args.negative) (ok_zero c.args.negative))

pub returns-then-seen-more-gt18 : goal.returns-then-seen-more-gt18
returns-then-seen-more-gt18 c = λ ds seen.
    rw (at_whole ds c.args.seen c.args.negative c.args.numerator_tens c.args.denominator_tens seen (omega arith))
    (sym (large_whole c.args.negative seen.0 c.args.seen.len
    (c.args.seen.zeros + c.args.numerator_tens - c.args.denominator_tens) (seen.1.some (omega arith))
    (omega arith)))

pub with_sign-requires : goal.with_sign-requires
with_sign-requires c = rw c.pow.ensures (whole_fits c.args.seen.number c.args.seen.len
    (c.args.seen.zeros + c.args.numerator_tens - c.args.denominator_tens) c.args.seen.short (omega arith))

pub returns-then-tens-denominator_tens : goal.returns-then-tens-denominator_tens
returns-then-tens-denominator_tens c = λ ds seen.
    let kept = seen.1.kept (omega arith) in
    let long = seen.1.some (omega arith) in
    let units : signed c.args.negative (c.args.seen.number * c.pow.result)
    ≡ signed c.args.negative (seen.0 * 10 ^ (c.args.seen.zeros
    + c.args.numerator_tens - c.args.denominator_tens)) =
    ap (signed c.args.negative) (ap (λ n. n * c.pow.result) kept ∙ ap (λ p. seen.0 * p) c.pow.ensures) in
    let same = to_z-of_z w128 c.with_sign.result (search (rules, c.with_sign.type_inv)) in
    rw (at_whole ds c.args.seen c.args.negative c.args.numerator_tens c.args.denominator_tens seen (omega arith))
    (ok_of c.args.negative _ 0 _ (same ∙ c.with_sign.ensures
    ∙ units) (ok_whole c.args.negative seen.0 c.args.seen.len
    (c.args.seen.zeros + c.args.numerator_tens - c.args.denominator_tens) long (omega arith)))

pub returns-then-seen-digits : goal.returns-then-seen-digits
returns-then-seen-digits c = λ ds seen.
    rw (at_fraction ds c.args.seen c.args.negative c.args.numerator_tens c.args.denominator_tens seen (omega arith)
    (omega arith))
    (sym (large_fraction c.args.negative seen.0 c.args.seen.len
    (c.args.denominator_tens - (c.args.seen.zeros + c.args.numerator_tens)) (seen.1.some (omega arith))
    (omega arith)))

pub returns-then-digits-gt18 : goal.returns-then-digits-gt18
returns-then-digits-gt18 c = λ ds seen.
    rw (at_fraction ds c.args.seen c.args.negative c.args.numerator_tens c.args.denominator_tens seen (omega arith)
    (omega arith))
    (sym (digits_fraction c.args.negative seen.0 c.args.seen.len
    (c.args.denominator_tens - (c.args.seen.zeros + c.args.numerator_tens)) (seen.1.some (omega arith))
    (omega arith) (omega arith)))

pub with_sign-requires-2 : goal.with_sign-requires-2
with_sign-requires-2 c = fraction_fits c.args.seen.number c.args.seen.len
    (c.args.denominator_tens - (c.args.seen.zeros + c.args.numerator_tens)) c.args.seen.short (omega arith)
    (omega arith)

pub returns : goal.returns
returns c = λ ds seen.
    let kept = seen.1.kept (omega arith) in
    let long = seen.1.some (omega arith) in
    let same = to_z-of_z w128 c.with_sign-2.result (search (rules, c.with_sign-2.type_inv)) in
    rw (at_fraction ds c.args.seen c.args.negative c.args.numerator_tens c.args.denominator_tens seen (omega arith)
    (omega arith))
    (ok_of c.args.negative _ _ _ (same ∙ c.with_sign-2.ensures
    ∙ ap (signed c.args.negative) kept) (ok_fraction c.args.negative seen.0 c.args.seen.len
    (c.args.denominator_tens - (c.args.seen.zeros + c.args.numerator_tens)) long (omega arith) (omega arith)))
