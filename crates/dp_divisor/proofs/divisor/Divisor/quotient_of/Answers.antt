use Rattle.std.proofs.Common.{◌*◌, ◌/◌, ◌%◌, ◌^◌, IsTrue, subst, sym}
use Rattle.std.specs.Int.{◌∣◌}
use Rattle.dp_divisor.proofs.InverseLaws.{checked_same, product_is, quotient_is, whole_quotient}
use Rattle.dp_divisor.proofs.divisor.Divisor.quotient_of.Goals as goal

pub returns-then-eq : goal.returns-then-eq
returns-then-eq c =
    let is = c.self.inside in
    let q = c.args.number / 2 ^ is.halvings * is.inverse % 2 ^ 128 in
    let same = checked_same c.checked_mul.result (2 ^ 128) (q * is.number) c.args.number c.checked_mul.ensures
    c.ranges.number.fits in
    rw (← c.self.view_is) (whole_quotient q is.number c.args.number c.self.invariant.some
    (same.0 (subst IsTrue c.eq.ensures c.if-eq.true)))

pub returns-else-eq : goal.returns-else-eq
returns-else-eq c = λ divides.
    let is = c.self.inside in
    let q = c.args.number / 2 ^ is.halvings * is.inverse % 2 ^ 128 in
    let same = checked_same c.checked_mul.result (2 ^ 128) (q * is.number) c.args.number c.checked_mul.ensures
    c.ranges.number.fits in
    let multiple = subst (λ n. n ∣ c.args.number) (sym c.self.view_is) divides in
    let known = quotient_is is.number is.halvings is.inverse c.args.number c.self.invariant multiple
    c.ranges.number.fits in
    let yes = subst IsTrue (sym c.eq.ensures) (same.1 (product_is q is.number c.args.number known multiple)) in
    let no = c.if-eq.false in cc
