use Rattle.std.proofs.Common.{◌≡◌, ◌*◌, ◌%◌, ◌^◌, arith, add-one, subst}
use Rattle.dp_divisor.proofs.InverseLaws.{newton_next}
use Rattle.dp_divisor.proofs.divisor.inverse_of.Goals as goal

pub loop-step-preserved : goal.loop-step-preserved
loop-step-preserved c =
    rw add-one (newton_next c.args.odd c.loop-step.inverse c.loop-step._step c.loop-step-test.true
    c.loop-step.invariant)

pub returns : goal.returns
returns c =
    let end : c.loop-step._step ≡ 7 = omega arith in
    subst (λ s. c.args.odd * c.loop-step.inverse % 2 ^ 2 ^ s ≡ 1) end c.loop-step.invariant
