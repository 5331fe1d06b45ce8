use Rattle.std.proofs.Common.{get_or, pos, unsigned_abs, ap, ◌∙◌, rules}
use Rattle.std.proofs.lemmas.Int.{to_z-of_z}
use Rattle.std.specs.Int.{w128}
use Rattle.dp_divisor.specs.CommonDivisors.{number_of}
use Rattle.dp_num.proofs.VectorLaws.{gcd_next}
use Rattle.dp_divisor.proofs.vectors.common_divisor.Goals as goal

pub loop-value-preserved : goal.loop-value-preserved
loop-value-preserved c =
    let vs = c.args.values.now in
    let i = c.loop-value.value-index in
    let passed = to_z-of_z w128 (get_or vs i (pos 0)) (search rules) in
    let read = c.unsigned_abs.ensures.value ∙ ap unsigned_abs passed in
    gcd_next vs i (number_of c.loop-value.common) _ _ c.loop-value-test.true read
    c.loop-value.invariant c.common_with-common.ensures
