use Rattle.std.proofs.Common.{◌≤◌, ℕ, true, false, sym, ap, subst, ◌∙◌}
use Rattle.dp_spec.specs.Calls.{AreInRange}
use Rattle.dp_spec.proofs.ScaleRange.{scales_in_range}
use Rattle.dp_policy.proofs.JoinedRows.{some_step}
use Rattle.dp_value.proofs.Modes.{sharable}
use Rattle.dp_value.proofs.room.sums_in_mode.Goals as goal

pub of-requires : goal.of-requires
of-requires c = record {
  range = subst AreInRange (sym c.scales.ensures)
      (scales_in_range c.args.model.now.model.scales c.invariant.ensures.model.scales);
}

pub of-requires-else-room : goal.of-requires-else-room
of-requires-else-room c = record {
  range = subst AreInRange (sym c.scales-else-room.ensures)
      (scales_in_range c.args.model.now.model.scales c.invariant.ensures.model.scales);
}

pub shared_worth-requires-clause-sizes : goal.shared_worth-requires-clause-sizes
shared_worth-requires-clause-sizes c =
    let mode = ap (λ r. r.fit.exact) c.room.view_is ∙ ap (λ f. f.exact) c.requires.room.fit in
    sharable true _ c.of.result c.args.model.now.model c.invariant.ensures.model
    (c.of.ensures ∙ c.scales.ensures)
    c.if-room.true c.args.policy.now.horizon (some_step c.args.model.now.model c.invariant.ensures.model
    c.args.policy.now.horizon c.args.policy.now.rows c.requires.policy)
    (subst (λ (k : ℕ). k ≤ 24) c.horizon-horizon.ensures.is c.horizon-horizon.ensures.limit)
    mode c.args.policy.now.rows c.requires.policy

pub shared_worth-requires-else-room-clause-sizes : goal.shared_worth-requires-else-room-clause-sizes
shared_worth-requires-else-room-clause-sizes c =
    let mode = ap (λ r. r.fit.exact) c.room.view_is ∙ ap (λ f. f.exact) c.requires.room.fit in
    sharable false _ c.of-else-room.result c.args.model.now.model c.invariant.ensures.model
    (c.of-else-room.ensures ∙ c.scales-else-room.ensures) c.if-room.false c.args.policy.now.horizon
    (some_step c.args.model.now.model c.invariant.ensures.model c.args.policy.now.horizon
    c.args.policy.now.rows c.requires.policy) (subst (λ (k : ℕ). k ≤ 24)
    c.horizon-horizon.ensures.is c.horizon-horizon.ensures.limit) mode c.args.policy.now.rows c.requires.policy
