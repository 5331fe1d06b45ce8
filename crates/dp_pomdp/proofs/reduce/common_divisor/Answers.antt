use Rattle.std.proofs.Common.{ℕ, ap, subst, ◌∙◌, add-one, arith, rules}
use Rattle.std.specs.Int.{◌∣◌}
use Rattle.std.proofs.Math.Nat.{one-dvd}
use Rattle.std.proofs.lemmas.Int.{to_z-of_z}
use mir.Syntax.{w128}
use mir.Val.{SFits}
use Rattle.std.proofs.Common.{unsigned_abs}
use Rattle.dp_pomdp.specs.Looking.{weights_of}
use Rattle.dp_pomdp.proofs.Multiples.{divided_more, divides_more, small_more}
use Rattle.dp_pomdp.proofs.reduce.common_divisor.Goals as goal

pub returns-then-common-eq1-clause-divides : goal.returns-then-common-eq1-clause-divides
returns-then-common-eq1-clause-divides c = λ s lt. one-dvd (unsigned_abs (weights_of c.args.weights.now s).high)

pub returns-then-common-eq1-clause-greatest : goal.returns-then-common-eq1-clause-greatest
returns-then-common-eq1-clause-greatest c = λ d divides.
    let ws = c.args.weights.now in
    let i = c.loop-weight.weight-index in
    let passed = to_z-of_z w128 (weights_of ws i).high (search rules) in
    let read = c.unsigned_abs.ensures.value ∙ ap unsigned_abs passed in
    subst (λ (k : ℕ). d ∣ k) c.if-common-eq1.true
    (divided_more c.loop-weight.common _ _ i ws c.gcd-common.ensures.greatest read (omega arith)
    c.loop-weight.invariant.greatest d divides)

pub loop-weight-preserved : goal.loop-weight-preserved
loop-weight-preserved c =
    let ws = c.args.weights.now in
    let i = c.loop-weight.weight-index in
    let passed = to_z-of_z w128 (weights_of ws i).high (search rules) in
    let read = c.unsigned_abs.ensures.value ∙ ap unsigned_abs passed in
    let fits : SFits w128 (weights_of ws i).high = search rules in
    record {
      small = small_more c.loop-weight.common _ _ _ c.gcd-common.ensures.greatest read
          (c.requires.numbers i (omega arith)).0 fits c.loop-weight.invariant.small;
      divides = rw add-one (divides_more c.loop-weight.common _ _ i ws c.gcd-common.ensures.greatest read
          c.loop-weight.invariant.divides);
      greatest = divided_more c.loop-weight.common _ _ i ws c.gcd-common.ensures.greatest read (omega arith)
          c.loop-weight.invariant.greatest;
    }
