use Rattle.std.proofs.Common.{subst}
use Rattle.std.specs.Int.{IsGcd}
use Rattle.std.proofs.lemmas.Nat.Gcd.{IsGcd-from_mod, IsGcd-from_zero, same_from_IsGcd}
use Rattle.dp_base.proofs.DivisorLaws.{gcd_of-IsGcd}
use Rattle.dp_base.proofs.divisor.gcd.Goals as goal

pub loop-divisor-preserved : goal.loop-divisor-preserved
loop-divisor-preserved c = λ g h. c.loop-divisor.invariant g
    (IsGcd-from_mod c.loop-divisor.divided c.loop-divisor.divisor g h)

pub returns-clause-greatest : goal.returns-clause-greatest
returns-clause-greatest c = c.loop-divisor.invariant c.loop-divisor.divided
    (IsGcd-from_zero c.loop-divisor.divided c.loop-divisor.divisor c.loop-divisor-test.false)

pub returns-clause-computed : goal.returns-clause-computed
returns-clause-computed c = same_from_IsGcd c.args.a c.args.b _ _ (returns-clause-greatest c)
    (gcd_of-IsGcd c.args.a c.args.b)

pub returns-in-Ok-Ok-clause-greatest : goal.returns-in-Ok-Ok-clause-greatest
returns-in-Ok-Ok-clause-greatest c =
    let (_, left) = c.in-Ok-Ok.ensures in
    let (_, right) = c.in-Ok-Ok.ensures' in
    c.loop-divisor.invariant c.short_gcd.result
    (subst (λ n. IsGcd n c.loop-divisor.divisor c.short_gcd.result) left
    (subst (λ n. IsGcd c.in-Ok-Ok.short n c.short_gcd.result) right c.short_gcd.ensures))

pub returns-in-Ok-Ok-clause-computed : goal.returns-in-Ok-Ok-clause-computed
returns-in-Ok-Ok-clause-computed c = same_from_IsGcd c.args.a c.args.b _ _ (returns-in-Ok-Ok-clause-greatest c)
    (gcd_of-IsGcd c.args.a c.args.b)
