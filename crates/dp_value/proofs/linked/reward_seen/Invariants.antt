use Rattle.std.proofs.Common.{◌≡◌}
use Rattle.dp_spec.specs.Quantities.{span_sum}
use Rattle.dp_value.specs.WeightUpdates.{weights_of}
use Rattle.dp_value.specs.Rewards.{reward_part}
use Rattle.dp_value.proofs.linked.reward_seen.Given as goal

abbrev pub invariant-loop-seen : goal.invariant-loop-seen
invariant-loop-seen g l = l.total ≡ span_sum l.seen (reward_part (g.A.Arith.operations l.arith)
    l.model.model l.rest (weights_of l.weights l.state) l.action l.state l.next)
