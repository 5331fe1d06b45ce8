use Rattle.std.proofs.Common.{◌≡◌, suc, true, false, sym, subst, ◌∙◌}
use Rattle.dp_spec.specs.Arithmetic.{Arithmetic}
use Rattle.dp_spec.specs.Calls.{AreInRange}
use Rattle.dp_spec.specs.Front.{fixed_joint_action}
use Rattle.dp_spec.specs.Quantities.{earned_reward_in}
use Rattle.dp_spec.specs.Steps.{advanced_front}
use Rattle.dp_spec.proofs.ScaleRange.{scales_in_range}
use Rattle.dp_cluster.proofs.Advances.{advanceable}
use Rattle.dp_cluster.proofs.Modes.{same_arithmetic}
use Rattle.dp_cluster.proofs.advance.earned_in.Goals as goal

pub of-requires : goal.of-requires
of-requires c = record {
  range = subst AreInRange (sym c.scales.ensures)
      (scales_in_range c.args.m.now.model.scales c.requires.of_model.model.scales);
}

pub earned_after-requires : goal.earned_after-requires
earned_after-requires c = record {
  sizes = advanceable true c.of.result c.args.m.now.model c.args.front.now
      c.requires.of_model c.invariant.ensures c.requires.stage (c.of.ensures ∙ c.scales.ensures)
      (sym c.is_exact.ensures ∙ c.if-is_exact.true);
  actions = c.requires.actions;
}

pub returns-then-is_exact : goal.returns-then-is_exact
returns-then-is_exact c =
    subst (λ (A : Arithmetic). c.earned_after.result ≡ earned_reward_in A c.args.m.now.model
    (fixed_joint_action c.args.m.now.model (advanced_front c.args.m.now.model c.args.front.now.front))
    c.args.front.now.horizon (suc c.args.front.now.front.stage))
    (same_arithmetic true c.args.front.now.is_exact c.of.result c.args.m.now.model
    (c.of.ensures ∙ c.scales.ensures) (sym c.is_exact.ensures ∙ c.if-is_exact.true)) c.earned_after.ensures

pub of-requires-else-is_exact : goal.of-requires-else-is_exact
of-requires-else-is_exact c = record {
  range = subst AreInRange (sym c.scales-else-is_exact.ensures)
      (scales_in_range c.args.m.now.model.scales c.requires.of_model.model.scales);
}

pub earned_after-requires-else-is_exact : goal.earned_after-requires-else-is_exact
earned_after-requires-else-is_exact c = record {
  sizes = advanceable false c.of-else-is_exact.result
      c.args.m.now.model c.args.front.now c.requires.of_model c.invariant.ensures c.requires.stage
      (c.of-else-is_exact.ensures ∙ c.scales-else-is_exact.ensures)
      (sym c.is_exact.ensures ∙ c.if-is_exact.false);
  actions = c.requires.actions;
}

pub returns-else-is_exact : goal.returns-else-is_exact
returns-else-is_exact c =
    subst (λ (A : Arithmetic). c.earned_after-else-is_exact.result
    ≡ earned_reward_in A c.args.m.now.model (fixed_joint_action c.args.m.now.model
    (advanced_front c.args.m.now.model c.args.front.now.front)) c.args.front.now.horizon
    (suc c.args.front.now.front.stage))
    (same_arithmetic false c.args.front.now.is_exact c.of-else-is_exact.result c.args.m.now.model
    (c.of-else-is_exact.ensures ∙ c.scales-else-is_exact.ensures)
    (sym c.is_exact.ensures ∙ c.if-is_exact.false)) c.earned_after-else-is_exact.ensures
