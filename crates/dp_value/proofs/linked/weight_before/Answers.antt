use Rattle.std.proofs.Common.{true, suc, ◌≤◌, length, arith}
use Rattle.dp_value.proofs.LinkedParts.{linked_below, may_add_linked, weight_is}
use Rattle.dp_value.proofs.WeightUpdates.{may_chance, may_later}
use Rattle.dp_value.proofs.linked.weight_before.Goals as goal

pub bounds-weights-state : goal.bounds-weights-state
bounds-weights-state g c =
    let below = linked_below c.args.model.now.model true c.args.action c.args.next c.loop-place.place _
    c.before-states.ensures.states (omega arith) in omega (arith, below, c.requires.one_each)

pub trans-requires-clause-state : goal.trans-requires-clause-state
trans-requires-clause-state g c =
    linked_below c.args.model.now.model true c.args.action c.args.next c.loop-place.place _ c.before-states.ensures.states
    (omega arith)

pub chance-reached-requires : goal.chance-reached-requires
chance-reached-requires g c =
    let below = linked_below c.args.model.now.model true c.args.action c.args.next c.loop-place.place _
    c.before-states.ensures.states (omega arith) in
    record {
      allowed = rw (c.trans.ensures, c.obs-seen.ensures) (may_chance _ _ _ _ c.requires.sizes _ _ _
          c.requires.action c.requires.observation c.requires.next _ below);
    }

pub later-requires : goal.later-requires
later-requires g c =
    let below = linked_below c.args.model.now.model true c.args.action c.args.next c.loop-place.place _
    c.before-states.ensures.states (omega arith) in
    record {
      allowed = rw (c.chance-reached.ensures, c.trans.ensures, c.obs-seen.ensures)
          (may_later _ _ _ _ c.requires.sizes _ _ _ c.requires.action c.requires.observation c.requires.next
          _ below);
    }

pub add_spans-total-requires : goal.add_spans-total-requires
add_spans-total-requires g c =
    let inside : suc c.loop-place.place ≤ length c.before-states.result.now = omega arith in
    record {
      room = rw (
        c.loop-place.invariant,
        c.later.ensures,
        c.chance-reached.ensures,
        c.trans.ensures,
        c.obs-seen.ensures,
      ) (may_add_linked _ _ _ _ c.requires.sizes _ _ _ c.requires.action c.requires.observation
          c.requires.next c.before-states.result.now c.before-states.ensures.states (suc c.loop-place.place) inside);
    }

pub returns : goal.returns
returns g c =
    weight_is _ c.requires.zeros _ _ _ _ _ c.loop-place.place c.before-states.result.now c.loop-place.total
    c.before-states.ensures.states c.loop-place.invariant (omega arith)
