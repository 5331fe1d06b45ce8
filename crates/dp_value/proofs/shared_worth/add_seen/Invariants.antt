use Rattle.dp_spec.specs.Quantities.{weights_after_in}
use Rattle.dp_value.specs.WeightUpdates.{weights_of}
use Rattle.dp_value.proofs.RowUpdates.{IsAdding}
use Rattle.dp_value.proofs.shared_worth.add_seen.Given as goal

abbrev pub invariant-loop-state : goal.invariant-loop-state
invariant-loop-state g l = IsAdding l.model.model.states l.to l.state l.next l.initial.next
    (weights_after_in (g.A.Arith.operations l.arith) l.model.model (weights_of l.weights) l.action l.seen)
