use Rattle.std.proofs.Common.{◌≡◌}
use Rattle.dp_spec.specs.Quantities.{span_sum}
use Rattle.dp_value.specs.WeightUpdates.{weights_of}
use Rattle.dp_value.specs.Rewards.{reward_from}
use Rattle.dp_value.proofs.linked.linked_reward.Given as goal

abbrev pub invariant-loop-state : goal.invariant-loop-state
invariant-loop-state g l = l.total ≡ span_sum l.state (λ s. reward_from (g.A.Arith.operations l.arith)
    l.model.model l.rest (weights_of l.weights s) l.action s)
