use Rattle.std.proofs.Common.{arith, refl, ◌∙◌}
use Rattle.std.proofs.Math.ListN.{length-set}
use Rattle.dp_num.proofs.ExactSteps.{first_factor, one_step_mod, one_more_factor}
use Rattle.dp_num.proofs.exact.reward_factors.Goals as goal

pub loop-i-init : goal.loop-i-init
loop-i-init c = record {
  holds = λ i lt. absurd (omega arith);
  next = first_factor c.args.scales.now c.requires.range _ c.from-factor.ensures;
  length = refl;
}

pub loop-i-preserved : goal.loop-i-preserved
loop-i-preserved c = record {
  holds = one_more_factor c.args.scales.now c.loop-i.i c.loop-i.factors c.loop-i.factor c.loop-i.invariant.holds
      (omega arith) c.loop-i.invariant.next;
  next = one_step_mod c.args.scales.now c.loop-i.i c.loop-i.factor _ _ _ _ c.loop-i.invariant.next
      c.from.ensures
      c.from-2.ensures c.from-3.ensures;
  length = length-set c.loop-i.factors _ _ ∙ c.loop-i.invariant.length;
}
