use Rattle.std.proofs.Common.{◌+◌, get_or, map, pos, unsigned_abs, take, ap, subst, ◌∙◌, rules}
use Rattle.std.proofs.lemmas.Int.{to_z-of_z}
use mir.Syntax.{w128}
use Rattle.dp_spec.specs.Primitive.{IsGcdOf}
use Rattle.dp_num.proofs.VectorLaws.{gcd_next, gcd_one}
use Rattle.dp_num.proofs.vectors.common_divisor.Goals as goal

pub returns-then-common-eq1 : goal.returns-then-common-eq1
returns-then-common-eq1 c =
    let vs = c.args.values.now in
    let i = c.loop-value.value-index in
    let passed = to_z-of_z w128 (get_or vs i (pos 0)) (search rules) in
    let read = c.unsigned_abs.ensures.value ∙ ap unsigned_abs passed in
    gcd_one (map unsigned_abs vs) (i + 1)
    (subst (IsGcdOf (take (i + 1) (map unsigned_abs vs))) c.if-common-eq1.true
    (gcd_next vs i c.loop-value.common _ _ c.loop-value-test.true read
    c.loop-value.invariant c.gcd-common.ensures.greatest))

pub loop-value-preserved : goal.loop-value-preserved
loop-value-preserved c =
    let vs = c.args.values.now in
    let i = c.loop-value.value-index in
    let passed = to_z-of_z w128 (get_or vs i (pos 0)) (search rules) in
    let read = c.unsigned_abs.ensures.value ∙ ap unsigned_abs passed in
    gcd_next vs i c.loop-value.common _ _ c.loop-value-test.true read
    c.loop-value.invariant c.gcd-common.ensures.greatest
