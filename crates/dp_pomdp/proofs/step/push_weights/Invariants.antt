use Rattle.std.proofs.Common.{◌≡◌, ℕ, ◌<◌}
use Rattle.dp_spec.specs.Quantities.{weights_after_in}
use Rattle.dp_pomdp.specs.Looking.{weights_of}
use Rattle.dp_pomdp.proofs.step.push_weights.Given as goal

abbrev pub invariant-loop-to : goal.invariant-loop-to
invariant-loop-to g l = (t : ℕ) → t < l.to → weights_of l.next t
    ≡ weights_after_in (g.A.Arith.operations l.arith) l.model.model (weights_of l.weights) l.action l.seen t
