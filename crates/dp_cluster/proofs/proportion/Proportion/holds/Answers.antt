use Rattle.std.proofs.Common.{◌≡◌, ◌*◌, ◌^◌, IsTrue, subst, sym}
use Rattle.dp_divisor.proofs.InverseLaws.{checked_same, product_is}
use Rattle.dp_cluster.proofs.Proportions.{first_divides, second_times}
use Rattle.dp_cluster.proofs.proportion.Proportion.holds.Goals as goal

pub returns-in-Some : goal.returns-in-Some
returns-in-Some c =
    let is = c.args.self.now in
    let q = c.in-Some.times in
    let whole = c.in-Some.ensures in
    let first : q * is.first ≡ c.args.a = product_is q is.first c.args.a whole.1 whole.0 in
    let same = checked_same c.checked_mul.result (2 ^ 128) (q * is.second) c.args.b c.checked_mul.ensures
    c.ranges.b.fits in
    let times = second_times q is.first is.second c.args.a c.args.b is.some_first first in (
      λ yes. times.0 (same.0 (subst IsTrue c.eq.ensures yes)),
      λ e. subst IsTrue (sym c.eq.ensures) (same.1 (times.1 e)),
    )

pub returns-in-None : goal.returns-in-None
returns-in-None c =
    let is = c.args.self.now in
    let none = c.in-None.ensures in (
      λ yes. cc,
      λ e. absurd (none (first_divides is.first is.second c.args.a c.args.b is.lowest e)),
    )
