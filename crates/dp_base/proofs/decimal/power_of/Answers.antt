use Rattle.std.proofs.Common.{arith}
use Rattle.dp_base.proofs.Exponents.{more_value, more_below}
use Rattle.dp_base.proofs.decimal.power_of.Goals as goal

pub loop-digit-preserved : goal.loop-digit-preserved
loop-digit-preserved c =
    let digit = c.requires.digits c.loop-digit.digit-index c.loop-digit-test.true in
    record {
      is = rw c.from.ensures (more_value c.args.digits.now c.loop-digit.power c.loop-digit.digit-index
          c.loop-digit-test.true digit c.loop-digit.invariant.is);
      below = omega (
        arith,
        more_below c.args.digits.now c.loop-digit.power c.loop-digit.digit-index digit
            c.loop-digit.invariant.below,
        c.from.ensures,
      );
    }
