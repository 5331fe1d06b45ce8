use Rattle.std.proofs.Common.{◌≡◌}
use Rattle.dp_spec.specs.Quantities.{span_sum}
use Rattle.dp_value.specs.WeightUpdates.{weights_of}
use Rattle.dp_value.specs.Rewards.{reward_arriving}
use Rattle.dp_value.proofs.reward.reward_from.Given as goal

abbrev pub invariant-loop-next : goal.invariant-loop-next
invariant-loop-next g l = l.total ≡ span_sum l.next (reward_arriving (g.A.Arith.operations l.arith)
    l.model.model l.rest (weights_of l.weights l.state) l.action l.state)
