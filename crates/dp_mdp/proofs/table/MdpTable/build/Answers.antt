use Rattle.std.proofs.Common.{◌*◌, ◌^◌, ◌<◌, sym, subst, ◌∙◌, arith, rules}
use Rattle.std.proofs.Math.Facts.{Fits-of_lt}
use Rattle.dp_spec.specs.Arithmetic.{arithmetic}
use Rattle.dp_spec.specs.Calls.{AreInRange}
use Rattle.dp_spec.proofs.ScaleRange.{scales_in_range}
use Rattle.dp_mdp.specs.TableRows.{IsTable}
use Rattle.dp_mdp.proofs.Modes.{exact_tabulating, outward_tabulating, step_is, step_small}
use Rattle.dp_mdp.proofs.TableBounds.{table_bounds}
use Rattle.dp_mdp.proofs.table.MdpTable.build.Goals as goal

pub overflow_mul-step-then-fit : goal.overflow_mul-step-then-fit
overflow_mul-step-then-fit c =
    let is = step_is c.args.model.now.model _ _ _ _ c.scales-scales.ensures c.from.ensures
    c.from-then-fit.ensures
    c.from-then-fit-2.ensures in
    let small = step_small c.args.model.now.model c.invariant.ensures.model c.args.fit.horizon
    c.requires.fit.horizon.0 (sym c.if-fit.true ∙ c.requires.fit.mode) in
    Fits-of_lt (let less : c.from.result * c.from-then-fit.result * c.from-then-fit-2.result
    < 2 ^ 127 = rw is small in omega arith)

pub of-requires : goal.of-requires
of-requires c = record {
  range = subst AreInRange (sym c.scales-scales.ensures)
      (scales_in_range c.args.model.now.model.scales c.invariant.ensures.model.scales);
}

pub table_in-requires-clause-sizes : goal.table_in-requires-clause-sizes
table_in-requires-clause-sizes c =
    let is = step_is c.args.model.now.model _ _ _ _ c.scales-scales.ensures c.from.ensures
    c.from-then-fit.ensures
    c.from-then-fit-2.ensures in
    let whole = exact_tabulating c.args.model.now.model c.invariant.ensures.model c.args.fit.horizon
    c.requires.fit.horizon.0 c.requires.fit.horizon.1 (sym c.if-fit.true ∙ c.requires.fit.mode) in
    rw (c.of.ensures, c.scales-scales.ensures, is) whole

pub of-requires-else-fit : goal.of-requires-else-fit
of-requires-else-fit c = record {
  range = subst AreInRange (sym c.scales-scales.ensures)
      (scales_in_range c.args.model.now.model.scales c.invariant.ensures.model.scales);
}

pub table_in-requires-else-fit-clause-sizes : goal.table_in-requires-else-fit-clause-sizes
table_in-requires-else-fit-clause-sizes c =
    let whole = outward_tabulating c.args.model.now.model c.invariant.ensures.model c.args.fit.horizon
    c.requires.fit.horizon.0 c.requires.fit.horizon.1 (sym c.if-fit.false ∙ c.requires.fit.mode) in
    rw (c.of-else-fit.ensures, c.scales-scales.ensures) whole

pub returns-clause-sound : goal.returns-clause-sound
returns-clause-sound c =
    let m = c.args.model.now.model in
    let table : IsTable (arithmetic c.args.fit.exact m.scales) m c.args.fit.horizon c.if-fit.table =
    search rules in
    table_bounds c.args.fit.exact m c.invariant.ensures.model c.args.fit.horizon c.if-fit.table table
