use Rattle.std.proofs.Common.{◌≡◌, ℕ, ◌<◌, pos, unsigned_abs, sym, ap, subst, ◌∙◌, arith}
use Rattle.std.specs.Int.{w128, ◌∣◌}
use Rattle.std.proofs.lemmas.Int.{fits_signed_from_abs, ints, to_z-of_z}
use mir.Val.{SFits}
use Rattle.dp_pomdp.specs.Looking.{weights_of}
use Rattle.dp_pomdp.proofs.Multiples.{one_left}
use Rattle.dp_pomdp.proofs.reduce.reduced.Goals as goal

pub divide-requires-clause-divisor : goal.divide-requires-clause-divisor
divide-requires-clause-divisor c =
    let number = c.in-Ok.ensures in
    let fits : SFits w128 c.in-Ok.common = subst (SFits w128) (sym number.1) number.0 in
    let same : c.unsigned_abs.result ≡ c.common_divisor.result =
    c.unsigned_abs.ensures.value ∙ ap unsigned_abs (to_z-of_z w128 c.in-Ok.common fits) ∙ ap unsigned_abs
    number.1 in
    λ s lt. subst (λ (k : ℕ). k ∣ unsigned_abs (weights_of c.args.weights.now s).high) (sym same)
    (c.common_divisor.ensures.divides s lt)

pub returns-in-Ok-clause-greatest : goal.returns-in-Ok-clause-greatest
returns-in-Ok-clause-greatest c = λ exact look some d divides.
    let number = c.in-Ok.ensures in
    let fits : SFits w128 c.in-Ok.common = subst (SFits w128) (sym number.1) number.0 in
    let same = ap unsigned_abs (to_z-of_z w128 c.in-Ok.common fits) ∙ ap unsigned_abs number.1 in
    subst (λ (k : ℕ). d ∣ k) (sym same) (c.common_divisor.ensures.greatest d divides)

pub returns-in_default-clause-greatest : goal.returns-in_default-clause-greatest
returns-in_default-clause-greatest c = λ exact look some d divides.
    let number = c.in-Ok.ensures in
    let fits : SFits w128 c.in-Ok.common = subst (SFits w128) (sym number.1) number.0 in
    let read = to_z-of_z w128 c.in-Ok.common fits ∙ number.1 in
    let less : c.common_divisor.result < 2 = search (arith, ints, read, c.if-common-gt1.false) in
    subst (λ (k : ℕ). d ∣ k)
    (one_left c.common_divisor.result c.args.weights.now less c.common_divisor.ensures.divides some)
    (c.common_divisor.ensures.greatest d divides)

pub returns-in_default-2-clause-greatest : goal.returns-in_default-2-clause-greatest
returns-in_default-2-clause-greatest c = λ exact look some d divides.
    absurd (c.in_default.ensures
    (fits_signed_from_abs w128 (pos c.common_divisor.result) c.common_divisor.ensures.small))
