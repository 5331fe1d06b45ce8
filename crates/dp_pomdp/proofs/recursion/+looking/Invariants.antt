use Rattle.std.proofs.Common.{◌≡◌, ◌+◌, ◌-◌, ◌+ℤ◌, suc}
use Rattle.dp_spec.specs.Quantities.{action_look_ahead_in, weighted_reward_in}
use Rattle.dp_base.specs.Sums.{greatest, int_sum, numbers_below}
use Rattle.dp_pomdp.specs.Looking.{weights_of}
use Rattle.dp_pomdp.specs.Memos.{AreKept, look_of}
use Rattle.dp_links.proofs.LinkSums.{at_item}
use Rattle.dp_pomdp.proofs.SeenLooks.{look_after}
use Rattle.dp_pomdp.proofs.recursion.+looking.Given as goal

abbrev pub decreases-action_look_ahead : goal.decreases-action_look_ahead
decreases-action_look_ahead g l = suc (l.rest + l.rest + l.rest)

abbrev pub decreases-greatest_look : goal.decreases-greatest_look
decreases-greatest_look g l = suc (suc (l.rest + l.rest + l.rest))

abbrev pub decreases-look_ahead : goal.decreases-look_ahead
decreases-look_ahead g l = l.rest + l.rest + l.rest

abbrev pub invariant-action_look_ahead-loop-place : goal.invariant-action_look_ahead-loop-place
invariant-action_look_ahead-loop-place g l = record {
  sum : l.total ≡ (weighted_reward_in (g.A.Arith.operations l.arith)
      l.model.model l.rest (weights_of l.weights) l.action).high +ℤ int_sum l.place
      (at_item (look_after (g.A.Arith.operations l.arith) l.model.model l.rest (weights_of l.weights) l.action
      (l.look - 1)) l.observed);
  kept : AreKept (look_of (g.A.Arith.operations l.arith) l.model.model) l.memo;
}

abbrev pub invariant-greatest_look-loop-action : goal.invariant-greatest_look-loop-action
invariant-greatest_look-loop-action g l = record {
  best : l.best ≡ greatest (λ a. action_look_ahead_in (g.A.Arith.operations l.arith)
      l.model.model l.rest (weights_of l.weights) a l.look) (numbers_below l.action);
  kept : AreKept (look_of (g.A.Arith.operations l.arith) l.model.model) l.memo;
}
