use Rattle.std.proofs.Common.{◌≡◌, ◌≤◌, ◌/◌, List, map, length, get_or, set, ℤ, pos, unsigned_abs, refl, sym, ap}
use Rattle.std.proofs.Common.{subst, ◌∙◌, rules, arith, add-one}
use Rattle.std.specs.Int.{w128, ◌∣◌}
use Rattle.std.proofs.lemmas.Int.{to_z-of_z}
use Rattle.std.proofs.lemmas.List.{get_or-map, length-map}
use Rattle.dp_spec.specs.Primitive.{IsGcdOf}
use Rattle.dp_divisor.specs.CommonDivisors.{number_of}
use Rattle.dp_num.proofs.VectorLaws.{divided_all, divided_next, divided_read, divided_to, undivided}
use Rattle.dp_divisor.proofs.CommonDivisorLaws.{gcd_of_numbers}
use Rattle.dp_divisor.proofs.vectors.primitive.Goals as goal

pub divided-requires-clause-multiple : goal.divided-requires-clause-multiple
divided-requires-clause-multiple c =
    let vs = c.args.values.now in
    let g = c.in-Some.common in
    let i = c.loop-at.at in
    let gcd = subst (λ o. IsGcdOf (map unsigned_abs vs) (number_of o)) c.in-Some.is c.common_divisor.ensures in
    let size = length-map vs unsigned_abs in
    let divides : g ∣ unsigned_abs (get_or vs i (pos 0)) =
    subst (λ k. g ∣ k) (get_or-map unsigned_abs vs i (pos 0) 0 c.loop-at-test.true)
    (gcd.divides i 0 (let lt = c.loop-at-test.true in omega arith)) in
    let read : get_or c.loop-at.values i (pos 0) ≡ get_or vs i (pos 0) =
    ap (λ l. get_or l i (pos 0)) c.loop-at.invariant ∙ divided_read vs g i (pos 0) in
    let handed = to_z-of_z w128 (get_or c.loop-at.values i (pos 0)) (search rules) in
    subst (λ (v : ℤ). g ∣ unsigned_abs v) (sym (handed ∙ read)) divides

pub loop-at-preserved : goal.loop-at-preserved
loop-at-preserved c =
    let vs = c.args.values.now in
    let g = c.in-Some.common in
    let i = c.loop-at.at in
    let passed = to_z-of_z w128 c.divided.result (search (rules, c.divided.type_inv)) in
    let read : get_or c.loop-at.values i (pos 0) ≡ get_or vs i (pos 0) =
    ap (λ l. get_or l i (pos 0)) c.loop-at.invariant ∙ divided_read vs g i (pos 0) in
    let handed = to_z-of_z w128 (get_or c.loop-at.values i (pos 0)) (search rules) in
    let value = passed ∙ c.divided.ensures ∙ ap (λ (v : ℤ). pos (unsigned_abs v / g)) (handed ∙ read) in
    (λ j. set (c.loop-at.invariant j) i (value j))
    ∙ divided_next vs g i (pos 0) c.loop-at-test.true
    ∙ ap (divided_to vs g) (sym (add-one i))

pub returns-after-loop-at : goal.returns-after-loop-at
returns-after-loop-at c = λ xs are.
    let g = c.in-Some.common in
    let gcd = gcd_of_numbers c.args.values.now xs _ _ are c.in-Some.is c.common_divisor.ensures in
    let same : length c.args.values.now ≡ length xs = ap (λ (l : List ℤ). length l) are ∙ length-map xs pos in
    let size : length xs ≤ c.loop-at.at = omega arith in (
      map (λ x. x / g) xs,
      (g, gcd, refl),
      c.loop-at.invariant ∙ ap (λ l. divided_to l g c.loop-at.at) are ∙ divided_all xs g c.loop-at.at size,
    )

pub returns-else-number-gt1 : goal.returns-else-number-gt1
returns-else-number-gt1 c = λ xs are.
    let g = c.in-Some.common in
    let gcd = gcd_of_numbers c.args.values.now xs _ _ are c.in-Some.is c.common_divisor.ensures in
    let small : g ≤ 1 = omega (arith, c.number.ensures.number, c.if-number-gt1.false) in
    (xs, (g, gcd, sym (undivided xs g small gcd)), are)

pub returns-in_default : goal.returns-in_default
returns-in_default c = λ xs are.
    let gcd = gcd_of_numbers c.args.values.now xs _ _ are c.in_default.is c.common_divisor.ensures in
    (xs, (0, gcd, sym (undivided xs 0 (omega arith) gcd)), are)
