use Rattle.std.proofs.Common.{suc, ◌≤◌, length, arith}
use Rattle.dp_pomdp.proofs.Pushes.{before_below, may_add, weight_is}
use Rattle.dp_pomdp.proofs.step.weight_from.Goals as goal

pub part_of-part-requires-clause-state : goal.part_of-part-requires-clause-state
part_of-part-requires-clause-state g c =
    before_below c.args.model.now.model c.args.action c.args.to c.loop-place.place _ c.before-states.ensures
    (omega arith)

pub add_spans-total-requires : goal.add_spans-total-requires
add_spans-total-requires g c =
    let inside : suc c.loop-place.place ≤ length c.before-states.result.now = omega arith in
    record {
      room = rw (c.loop-place.invariant, c.part_of-part.ensures)
          (may_add _ _ _ _ c.requires.sizes _ _ c.requires.action c.requires.seen _ c.requires.to
          c.before-states.result.now c.before-states.ensures (suc c.loop-place.place) inside);
    }

pub returns : goal.returns
returns g c =
    weight_is _ c.requires.sizes.1.zero _ _ _ _ _ c.loop-place.place c.before-states.result.now c.loop-place.total
    c.before-states.ensures c.loop-place.invariant (omega arith)
