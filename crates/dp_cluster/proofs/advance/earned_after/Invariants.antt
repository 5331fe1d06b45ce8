use Rattle.std.proofs.Common.{◌≡◌}
use Rattle.dp_spec.specs.Arithmetic.{span_add}
use Rattle.dp_spec.specs.Quantities.{class_weight_in, span_sum, weighted_reward_in}
use Rattle.dp_spec.specs.ClassSteps.{chosen_joint_action}
use Rattle.dp_cluster.proofs.advance.earned_after.Given as goal

abbrev pub invariant-loop-class : goal.invariant-loop-class
invariant-loop-class g l =
    l.total ≡ span_add l.front.earned (span_sum l.class (λ D. weighted_reward_in (g.A.Arith.operations l.arith)
    l.m.model l.rest (class_weight_in (g.A.Arith.operations l.arith) l.m.model l.front.front D)
    (chosen_joint_action l.m.model l.front.front D)))
