use Rattle.std.proofs.Common.{◌≡◌, ◌≤◌, ◌/◌, ℕ, List, map, length, get_or, set, ℤ, pos, unsigned_abs, refl, sym, ap}
use Rattle.std.proofs.Common.{subst, ◌∙◌, rules, arith, add-one}
use Rattle.std.proofs.lemmas.Int.{to_z-of_z}
use mir.Syntax.{w128}
use Rattle.dp_spec.specs.Primitive.{IsGcdOf}
use Rattle.std.proofs.lemmas.List.{length-map}
use Rattle.dp_num.proofs.VectorLaws.{divided_all, divided_next, divided_read, divided_to, undivided, unsigned_pos}
use Rattle.dp_num.proofs.vectors.primitive.Goals as goal

pub loop-at-preserved : goal.loop-at-preserved
loop-at-preserved c =
    let vs = c.args.values.now in
    let g = c.common_divisor-common.result in
    let i = c.loop-at.at in
    let passed = to_z-of_z w128 c.divided.result (search (rules, c.divided.type_inv)) in
    let read : get_or c.loop-at.values i (pos 0) ≡ get_or vs i (pos 0) =
    ap (λ l. get_or l i (pos 0)) c.loop-at.invariant ∙ divided_read vs g i (pos 0) in
    let handed = to_z-of_z w128 (get_or c.loop-at.values i (pos 0)) (search rules) in
    let value = passed ∙ c.divided.ensures ∙ ap (λ (v : ℤ). pos (unsigned_abs v / g)) (handed ∙ read) in
    (λ j. set (c.loop-at.invariant j) i (value j))
    ∙ divided_next vs g i (pos 0) c.loop-at-test.true
    ∙ ap (divided_to vs g) (sym (add-one i))

pub returns-after-loop-at : goal.returns-after-loop-at
returns-after-loop-at c = λ xs are.
    let g = c.common_divisor-common.result in
    let alike = ap (map unsigned_abs) are ∙ unsigned_pos xs in
    let gcd = subst (λ (l : List ℕ). IsGcdOf l g) alike c.common_divisor-common.ensures in
    let same : length c.args.values.now ≡ length xs = ap (λ (l : List ℤ). length l) are ∙ length-map xs pos in
    let size : length xs ≤ c.loop-at.at = omega arith in (
      map (λ x. x / g) xs,
      (g, gcd, refl),
      c.loop-at.invariant ∙ ap (λ l. divided_to l g c.loop-at.at) are ∙ divided_all xs g c.loop-at.at size,
    )

pub returns-else-common-gt1 : goal.returns-else-common-gt1
returns-else-common-gt1 c = λ xs are.
    let g = c.common_divisor-common.result in
    let alike = ap (map unsigned_abs) are ∙ unsigned_pos xs in
    let gcd = subst (λ (l : List ℕ). IsGcdOf l g) alike c.common_divisor-common.ensures in
    let small : g ≤ 1 = omega arith in
    (xs, (g, gcd, sym (undivided xs g small gcd)), are)
