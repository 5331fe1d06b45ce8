use Rattle.std.proofs.Common.{◌≡◌}
use Rattle.dp_spec.specs.Quantities.{mdp_table_in}
use Rattle.dp_base.specs.Sums.{int_sum}
use Rattle.dp_pomdp.specs.Looking.{weights_of}
use Rattle.dp_pomdp.proofs.step.against_table.Given as goal

abbrev pub invariant-loop-state : goal.invariant-loop-state
invariant-loop-state g l = l.total ≡ int_sum l.state (λ s. (g.A.Arith.operations l.arith).tail
    (weights_of l.weights s) (mdp_table_in (g.A.Arith.operations l.arith) l.model.model l.rest s))
