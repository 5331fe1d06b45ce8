use Rattle.std.proofs.lemmas.Nat.Gcd.{dvd-zero, dvd_refl}
use Rattle.dp_divisor.proofs.common.common_with.Goals as goal

pub returns-in-Some : goal.returns-in-Some
returns-in-Some c = rw c.in-Some.is c.common_with.ensures

pub returns-in-None-2 : goal.returns-in-None-2
returns-in-None-2 c =
    rw (c.in-None-2.is, c.of.ensures) (dvd-zero c.args.number, dvd_refl c.args.number, λ d p q. q)
