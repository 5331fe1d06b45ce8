use Rattle.std.proofs.Common.{◌≡◌, length, arith}
use Rattle.dp_cluster.proofs.LeastAlike.{below, found_none, found_some, here, later_before, split_next}
use Rattle.dp_cluster.specs.EqualClasses.{IsLaterOf}
use Rattle.std.proofs.Common.{subst}
use Rattle.dp_cluster.proofs.equal.least_alike.Goals as goal

pub loop-vector-preserved-in-Some-2 : goal.loop-vector-preserved-in-Some-2
loop-vector-preserved-in-Some-2 c =
    let vs = c.args.vectors.items in
    let rest = c.loop-vector.rest.items in
    let left = c.pop.new.self.items in
    let v = c.in-Some.vector in
    let split = c.loop-vector.invariant.split in
    let popped = c.in-Some.ensures.items in
    let n = c.len-class.result in
    let size : n ≡ length left = omega (arith, c.len-class.ensures, c.pop.new.self.ok) in
    let lt = below vs rest left v split popped n size in
    let is = here vs rest left v split popped n size in
    let before = later_before vs rest left v split popped n size c.loop-vector.later c.loop-vector.invariant.later in
    let first = c.in_ok-other.ensures.alike vs lt is before in
    record {
      split = split_next vs rest left v split popped;
      later = subst (λ x. IsLaterOf vs x c.add.new.self) size (c.in_ok-other.ensures.later vs lt is before);
      found = found_some vs rest left v split popped n size c.in_ok-other.field-0 c.in-Some-2.other c.in-Some-2.is
          first;
    }

pub loop-vector-preserved : goal.loop-vector-preserved
loop-vector-preserved c =
    let vs = c.args.vectors.items in
    let rest = c.loop-vector.rest.items in
    let left = c.pop.new.self.items in
    let v = c.in-Some.vector in
    let split = c.loop-vector.invariant.split in
    let popped = c.in-Some.ensures.items in
    let n = c.len-class.result in
    let size : n ≡ length left = omega (arith, c.len-class.ensures, c.pop.new.self.ok) in
    let lt = below vs rest left v split popped n size in
    let is = here vs rest left v split popped n size in
    let before = later_before vs rest left v split popped n size c.loop-vector.later c.loop-vector.invariant.later in
    let first = c.in_ok-other.ensures.alike vs lt is before in
    record {
      split = split_next vs rest left v split popped;
      later = subst (λ x. IsLaterOf vs x c.add.new.self) size (c.in_ok-other.ensures.later vs lt is before);
      found = found_none vs rest left v split popped n size c.in_ok-other.field-0 c.loop-vector.found
          c.in_default-2.is first c.loop-vector.invariant.found;
    }
