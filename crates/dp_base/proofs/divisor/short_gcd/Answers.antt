use Rattle.std.proofs.Common.{arith}
use Rattle.std.proofs.lemmas.Nat.Gcd.{IsGcd-from_mod, IsGcd-from_zero}
use Rattle.dp_base.proofs.divisor.short_gcd.Goals as goal

pub loop-divisor-preserved : goal.loop-divisor-preserved
loop-divisor-preserved c = λ g h. c.loop-divisor.invariant g
    (IsGcd-from_mod c.loop-divisor.divided c.loop-divisor.divisor g h)

pub returns : goal.returns
returns c = c.loop-divisor.invariant c.loop-divisor.divided
    (IsGcd-from_zero c.loop-divisor.divided c.loop-divisor.divisor (let ended = c.loop-divisor-test.false in omega arith))
