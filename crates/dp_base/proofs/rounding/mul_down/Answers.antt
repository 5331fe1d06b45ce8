use Rattle.std.proofs.Common.{rules, ◌≡◌, ◌*ℤ◌, unsigned_abs}
use Rattle.std.proofs.lemmas.Int.{to_z-of_z}
use mir.Syntax.{w128}
use mir.Val.{SFits}
use Rattle.dp_base.specs.Rounding.{floor_of}
use Rattle.dp_base.proofs.Rounded.{product_fits, floor_below, floor_close}
use Rattle.dp_base.proofs.rounding.mul_down.Goals as goal
use Rattle.dp_base.proofs.rounding.mul_down.Goals.{After-floor}

floor_is : (c : After-floor) → c.floor.result ≡ floor_of (c.args.a *ℤ c.args.b) (unsigned_abs c.args.d)
floor_is c =
    let fits_a : SFits w128 c.args.a = c.ranges.a in
    let fits_b : SFits w128 c.args.b = c.ranges.b in
    let fits_d : SFits w128 c.args.d = c.ranges.d in
    let fits = product_fits c.args.a c.args.b c.requires.room in
    simp to_z-of_z at c.floor.ensures.floor

pub returns-clause-not_above : goal.returns-clause-not_above
returns-clause-not_above c =
    let fits : SFits w128 c.floor.result = search rules in
    simp to_z-of_z (floor_below _ _ _ c.requires.divisor (floor_is c))

pub returns-clause-close : goal.returns-clause-close
returns-clause-close c =
    let fits : SFits w128 c.floor.result = search rules in
    simp to_z-of_z (floor_close _ _ _ c.requires.divisor (floor_is c))
