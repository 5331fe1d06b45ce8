use Rattle.std.proofs.Common.{◌≡◌, ◌++◌, map}
use Rattle.std.specs.List.{range_with_len}
use Rattle.dp_spec.specs.Front.{class_counts}
use Rattle.dp_spec.specs.Quantities.{class_weight_in}
use Rattle.dp_spec.specs.Steps.{advanced_front}
use Rattle.dp_spec.specs.ClassSteps.{pair_number}
use Rattle.dp_cluster.proofs.advance.push_nexts.Given as goal

abbrev pub invariant-loop-state : goal.invariant-loop-state
invariant-loop-state g l =
    l.weights.items ≡ l.fn.weights.items ++ map (class_weight_in (g.A.Arith.operations l.arith) l.m.model
    (advanced_front l.m.model l.front.front)
    (pair_number (class_counts l.front.front.agents) l.m.model.observations l.class l.seen))
    (range_with_len 0 l.state)
