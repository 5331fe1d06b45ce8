use Rattle.std.proofs.Common.{◌≡◌}
use Rattle.dp_spec.specs.Quantities.{span_sum}
use Rattle.dp_value.specs.WeightUpdates.{weights_of}
use Rattle.dp_value.specs.Rewards.{reward_arriving}
use Rattle.dp_links.proofs.LinkSums.{at_item}
use Rattle.dp_value.proofs.linked.reward_after.Given as goal

abbrev pub invariant-loop-place : goal.invariant-loop-place
invariant-loop-place g l = l.total ≡ span_sum l.place (at_item (reward_arriving (g.A.Arith.operations l.arith)
    l.model.model l.rest (weights_of l.weights l.state) l.action l.state) l.nexts)
