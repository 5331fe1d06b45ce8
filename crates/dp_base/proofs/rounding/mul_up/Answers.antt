use Rattle.std.proofs.Common.{rules, ◌≡◌, ◌*ℤ◌, unsigned_abs}
use Rattle.std.proofs.lemmas.Int.{to_z-of_z}
use mir.Syntax.{w128}
use mir.Val.{SFits}
use Rattle.dp_base.specs.Rounding.{ceiling_of}
use Rattle.dp_base.proofs.Rounded.{product_fits, ceiling_above, ceiling_close}
use Rattle.dp_base.proofs.rounding.mul_up.Goals as goal
use Rattle.dp_base.proofs.rounding.mul_up.Goals.{After-ceiling}

ceiling_is : (c : After-ceiling) → c.ceiling.result ≡ ceiling_of (c.args.a *ℤ c.args.b) (unsigned_abs c.args.d)
ceiling_is c =
    let fits_a : SFits w128 c.args.a = c.ranges.a in
    let fits_b : SFits w128 c.args.b = c.ranges.b in
    let fits_d : SFits w128 c.args.d = c.ranges.d in
    let fits = product_fits c.args.a c.args.b c.requires.room in
    simp to_z-of_z at c.ceiling.ensures

pub returns-clause-not_below : goal.returns-clause-not_below
returns-clause-not_below c =
    let fits : SFits w128 c.ceiling.result = search rules in
    simp to_z-of_z (ceiling_above _ _ _ c.requires.divisor (ceiling_is c))

pub returns-clause-close : goal.returns-clause-close
returns-clause-close c =
    let fits : SFits w128 c.ceiling.result = search rules in
    simp to_z-of_z (ceiling_close _ _ _ c.requires.divisor (ceiling_is c))
