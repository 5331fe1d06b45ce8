use Rattle.std.proofs.Common.{false, sym, subst, ◌∙◌}
use Rattle.dp_spec.specs.Calls.{AreInRange}
use Rattle.dp_spec.proofs.ScaleRange.{scales_in_range}
use Rattle.dp_pomdp.proofs.KeyRows.{mode_starts}
use Rattle.dp_pomdp.proofs.key_rows.start_weights_in.Goals as goal

pub of-requires : goal.of-requires
of-requires c =
    let m = c.args.model.now.model in
    record {
      range = subst AreInRange (sym c.scales.ensures)
          (scales_in_range m.scales c.invariant.ensures.model.scales);
    }

pub of-requires-else-fit : goal.of-requires-else-fit
of-requires-else-fit c =
    let m = c.args.model.now.model in
    record {
      range = subst AreInRange (sym c.scales-else-fit.ensures)
          (scales_in_range m.scales c.invariant.ensures.model.scales);
    }

pub start_weights-requires-else-fit : goal.start_weights-requires-else-fit
start_weights-requires-else-fit c =
    mode_starts false c.args.fit.exact c.of-else-fit.result c.args.model.now.model c.invariant.ensures.model
    (c.of-else-fit.ensures ∙ c.scales-else-fit.ensures) c.if-fit.false c.args.fit.horizon c.args.fit.unit
    c.requires.fit
