use Rattle.std.proofs.Common.{false, suc, ◌≤◌, length, arith}
use Rattle.dp_value.proofs.LinkedParts.{linked_below, may_add_after, reward_after_is}
use Rattle.dp_value.proofs.linked.reward_after.Goals as goal

pub reward_seen-arriving-requires-clause-next : goal.reward_seen-arriving-requires-clause-next
reward_seen-arriving-requires-clause-next g c =
    linked_below c.args.model.now.model false c.args.action c.args.state c.loop-place.place _ c.after-nexts.ensures.states
    (omega arith)

pub add_spans-total-requires : goal.add_spans-total-requires
add_spans-total-requires g c =
    let inside : suc c.loop-place.place ≤ length c.after-nexts.result.now = omega arith in
    record {
      room = rw (c.loop-place.invariant, c.reward_seen-arriving.ensures)
          (may_add_after _ _ _ _ _ c.requires.sizes _ c.requires.action _ c.requires.state
          c.after-nexts.result.now c.after-nexts.ensures.states (suc c.loop-place.place) inside);
    }

pub returns : goal.returns
returns g c =
    reward_after_is _ c.requires.zeros _ _ _ _ _ c.loop-place.place c.after-nexts.result.now c.loop-place.total
    c.after-nexts.ensures.states c.loop-place.invariant (omega arith)
