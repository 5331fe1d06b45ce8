use Rattle.std.proofs.Common.{◌+◌, ◌*◌, ◌<◌, add-one, length, pos, get_or, ◌∙◌, arith}
use Rattle.dp_spec.specs.Arithmetic.{point, span_add}
use Rattle.dp_spec.specs.Quantities.{weights_after_in}
use Rattle.dp_value.specs.WeightUpdates.{weights_of}
use Rattle.dp_value.proofs.RowUpdates.{adding_step}
use Rattle.dp_value.proofs.shared_worth.add_seen.Goals as goal

pub add_spans-requires : goal.add_spans-requires
add_spans-requires g c =
    let k = c.loop-state.state in
    let lk : c.loop-state.state < c.args.model.now.model.states = omega
    (arith, c.states-state-end.ensures.is, c.loop-state-test.true) in
    record {
      room = rw (
        c.linked_weight-updated.ensures,
        c.states.ensures.is,
        c.loop-state.invariant.rest c.args.to k lk (λ e. omega arith),
      ) (c.requires.sum k lk);
    }

pub loop-state-preserved : goal.loop-state-preserved
loop-state-preserved g c =
    let k = c.loop-state.state in
    let S = c.args.model.now.model.states in
    let lk : c.loop-state.state < c.args.model.now.model.states = omega
    (arith, c.states-state-end.ensures.is, c.loop-state-test.true) in
    let is = c.add_spans.ensures ∙ (λ i. span_add (get_or c.loop-state.next
    (c.args.to * c.states.ensures.is i + c.loop-state.state) (point (pos 0)))
    (c.linked_weight-updated.ensures i)) in
    let room : c.args.to * c.args.model.now.model.states + c.loop-state.state
    < length c.loop-state.next = omega (arith, lk, c.requires.to, c.loop-state.auto.next) in
    rw (add-one, c.states.ensures.is)
    (adding_step S c.args.to k c.loop-state.next c.args.next.now
    (weights_after_in (g.A.Arith.operations c.args.arith.now) c.args.model.now.model
    (weights_of c.args.weights.now) c.args.action c.args.seen)
    lk c.loop-state.invariant c.add_spans.result is room)
