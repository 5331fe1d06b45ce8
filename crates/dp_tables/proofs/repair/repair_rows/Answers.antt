use Rattle.std.proofs.Common.{arith}
use Rattle.dp_tables.proofs.RowsLemmas.{none_done, one_done, one_failed, all_done}
use Rattle.dp_tables.proofs.repair.repair_rows.Goals as goal

pub loop-row-init : goal.loop-row-init
loop-row-init c = none_done c.args.scale c.args.rows c.args.len c.args.cells.now

pub loop-row-preserved : goal.loop-row-preserved
loop-row-preserved c = one_done _ _ _ _ c.loop-row.row c.loop-row.cells _ _ _ c.loop-row.invariant
    c.loop-row-test.true c.requires.size c.requires.scale
    c.loop-row.auto.cells c.repair_row.auto.row c.in-Some.ensures.once c.in-Some.ensures.is

pub returns-in-None-clause-is : goal.returns-in-None-clause-is
returns-in-None-clause-is c = one_failed c.args.scale c.args.rows c.args.len c.args.cells.now c.loop-row.row
    c.loop-row.cells c.loop-row.repaired c.loop-row.invariant
    c.loop-row-test.true c.in-None.ensures.is

pub returns-clause-is : goal.returns-clause-is
returns-clause-is c = all_done _ _ _ _ _ _ _ c.loop-row.invariant (let h = c.loop-row.auto.row-end in
    omega arith) c.requires.size c.loop-row.auto.cells
