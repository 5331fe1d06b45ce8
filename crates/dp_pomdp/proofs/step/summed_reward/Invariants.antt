use Rattle.std.proofs.Common.{◌≡◌}
use Rattle.dp_spec.specs.Quantities.{span_sum}
use Rattle.dp_pomdp.proofs.Rewards.{reward_from}
use Rattle.dp_pomdp.proofs.step.summed_reward.Given as goal

abbrev pub invariant-loop-state : goal.invariant-loop-state
invariant-loop-state g l =
    l.total ≡ span_sum l.state (reward_from (g.A.Arith.operations l.arith)
    l.model.model l.rest l.weights l.action)
