use Rattle.std.proofs.Common.{subst, sym}
use Rattle.std.specs.Int.{◌∣◌}
use Rattle.dp_divisor.proofs.InverseLaws.{quotient_is}
use Rattle.dp_divisor.proofs.divisor.Divisor.quotient.Goals as goal

pub returns : goal.returns
returns c =
    let is = c.self.inside in
    rw (← c.self.view_is) (quotient_is is.number is.halvings is.inverse c.args.multiple c.self.invariant
    (subst (λ n. n ∣ c.args.multiple) (sym c.self.view_is) c.requires.multiple) c.ranges.multiple.fits)
