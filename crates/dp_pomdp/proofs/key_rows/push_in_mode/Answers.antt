use Rattle.std.proofs.Common.{◌-◌, suc, true, false, sym, subst, ◌∙◌, arith}
use Rattle.dp_spec.specs.Calls.{AreInRange}
use Rattle.dp_spec.proofs.ScaleRange.{scales_in_range}
use Rattle.dp_pomdp.proofs.Modes.{mode_looking}
use Rattle.dp_pomdp.proofs.key_rows.push_in_mode.Goals as goal

pub of-requires : goal.of-requires
of-requires c =
    let m = c.args.model.now.model in
    record {
      range = subst AreInRange (sym c.scales.ensures)
          (scales_in_range m.scales c.invariant.ensures.model.scales);
    }

pub push_weights-requires-clause-sizes : goal.push_weights-requires-clause-sizes
push_weights-requires-clause-sizes c =
    let fit = c.args.fit in
    let rest = fit.horizon - c.args.time - 1 in (
      rest,
      mode_looking true fit.exact c.of.result c.args.model.now.model c.invariant.ensures.model
          (c.of.ensures ∙ c.scales.ensures) c.if-fit.true fit.horizon c.args.time (suc rest) fit.unit c.requires.fit
          (omega arith) (omega arith) c.args.weights.now c.requires.one_each c.requires.weights,
    )

pub of-requires-else-fit : goal.of-requires-else-fit
of-requires-else-fit c =
    let m = c.args.model.now.model in
    record {
      range = subst AreInRange (sym c.scales-else-fit.ensures)
          (scales_in_range m.scales c.invariant.ensures.model.scales);
    }

pub push_weights-requires-else-fit-clause-sizes : goal.push_weights-requires-else-fit-clause-sizes
push_weights-requires-else-fit-clause-sizes c =
    let fit = c.args.fit in
    let rest = fit.horizon - c.args.time - 1 in (
      rest,
      mode_looking false fit.exact c.of-else-fit.result c.args.model.now.model c.invariant.ensures.model
          (c.of-else-fit.ensures ∙ c.scales-else-fit.ensures) c.if-fit.false fit.horizon c.args.time (suc rest)
          fit.unit c.requires.fit (omega arith) (omega arith) c.args.weights.now c.requires.one_each
          c.requires.weights,
    )
