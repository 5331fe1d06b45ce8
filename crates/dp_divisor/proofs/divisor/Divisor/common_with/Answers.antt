use Rattle.std.proofs.Common.{◌∙◌, sym}
use Rattle.std.proofs.Math.Nat.{pos_of_dvd_of_pos}
use Rattle.std.proofs.lemmas.Nat.Gcd.{dvd_refl}
use Rattle.dp_divisor.proofs.InverseLaws.{found}
use Rattle.dp_divisor.proofs.divisor.Divisor.common_with.Goals as goal

pub returns-then-is_some : goal.returns-then-is_some
returns-then-is_some c = (
  dvd_refl c.args.self,
  found c.quotient_of.result _ _ c.quotient_of.ensures (sym c.is_some.ensures ∙ c.if-is_some.true),
  λ d p q. p,
)

pub of-requires : goal.of-requires
of-requires c = record { some = pos_of_dvd_of_pos c.gcd.ensures.greatest.0 c.self.invariant.some }

pub returns : goal.returns
returns c = rw (c.of.ensures, ← c.self.view_is) c.gcd.ensures.greatest
