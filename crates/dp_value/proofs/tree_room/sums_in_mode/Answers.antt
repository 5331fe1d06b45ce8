use Rattle.std.proofs.Common.{true, false, sym, ap, subst, ◌∙◌}
use Rattle.dp_spec.specs.Calls.{AreInRange}
use Rattle.dp_spec.proofs.ScaleRange.{scales_in_range}
use Rattle.dp_policy.specs.Trees.{joint_policy}
use Rattle.dp_value.proofs.Modes.{evaluable}
use Rattle.dp_value.proofs.tree_room.sums_in_mode.Goals as goal

pub of-requires : goal.of-requires
of-requires c = record {
  range =
      subst AreInRange (sym c.scales.ensures)
      (scales_in_range c.args.model.now.model.scales c.invariant.ensures.model.scales);
}

pub of-requires-else-room : goal.of-requires-else-room
of-requires-else-room c = record {
  range = subst AreInRange (sym c.scales-else-room.ensures)
      (scales_in_range c.args.model.now.model.scales c.invariant.ensures.model.scales);
}

pub sums-requires-clause-sizes : goal.sums-requires-clause-sizes
sums-requires-clause-sizes c =
    let mode = ap (λ r. r.fit.exact) c.room.view_is ∙ ap (λ f. f.exact) c.requires.room.fit in
    evaluable true _ c.of.result c.args.model.now.model c.invariant.ensures.model
    (c.of.ensures ∙ c.scales.ensures) c.if-room.true c.args.policy.now.horizon
    c.requires.room.within mode (joint_policy c.args.policy.now) c.requires.policy

pub sums-requires-else-room-clause-sizes : goal.sums-requires-else-room-clause-sizes
sums-requires-else-room-clause-sizes c =
    let mode = ap (λ r. r.fit.exact) c.room.view_is ∙ ap (λ f. f.exact) c.requires.room.fit in
    evaluable false _ c.of-else-room.result c.args.model.now.model c.invariant.ensures.model
    (c.of-else-room.ensures ∙ c.scales-else-room.ensures) c.if-room.false c.args.policy.now.horizon
    c.requires.room.within mode (joint_policy c.args.policy.now) c.requires.policy
