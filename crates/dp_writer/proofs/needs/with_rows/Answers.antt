use Rattle.std.proofs.Common.{◌≡◌, subst, arith}
use Rattle.dp_writer.specs.ModelRows.{chance_row, each_below, scale_of_table}
use Rattle.dp_writer.specs.NeededScales.{AreNeeds}
use Rattle.dp_writer.proofs.RowNeeds.{none_needed, one_more, row_fails}
use Rattle.dp_writer.proofs.needs.with_rows.Goals as goal

pub loop-state-init : goal.loop-state-init
loop-state-init c = none_needed (scale_of_table c.args.model.now.model c.args.table) c.args.before c.requires.digits

pub with_row-requires-clause-digits : goal.with_row-requires-clause-digits
with_row-requires-clause-digits c = c.loop-state.invariant.within

pub returns-in-None : goal.returns-in-None
returns-in-None c =
    let m = c.args.model.now.model in
    row_fails (scale_of_table m c.args.table) (chance_row m c.args.table c.args.action) m.states c.loop-state.state
    (omega (arith, c.loop-state-test.true, c.states-state-end.ensures.is)) c.in-None.ensures

pub loop-state-preserved : goal.loop-state-preserved
loop-state-preserved c =
    let m = c.args.model.now.model in
    one_more (scale_of_table m c.args.table) (chance_row m c.args.table c.args.action) c.loop-state.state
    c.args.before c.loop-state.needs _ c.loop-state.invariant c.in-Some.ensures

pub returns : goal.returns
returns c =
    let m = c.args.model.now.model in
    let all : c.loop-state.state ≡ m.states =
    omega (arith, c.loop-state-test.false, c.loop-state.auto.state-end, c.states-state-end.ensures.is) in
    subst (λ n. AreNeeds (scale_of_table m c.args.table) (each_below (chance_row m c.args.table c.args.action) n)
    c.args.before c.loop-state.needs) all c.loop-state.invariant
