use Rattle.std.proofs.Common.{◌+◌, ◌∙◌, arith}
use Rattle.dp_cluster.proofs.RunsOfWeights.{total_next, total_within}
use Rattle.dp_cluster.proofs.front.Front.total.Goals as goal

pub run_total-total-requires : goal.run_total-total-requires
run_total-total-requires c =
    let k = c.args.self.now in
    let ps = c.args.places in
    let next = total_next k.weights ps.rows ps.classes ps.width c.requires.runs c.loop-row.row c.args.class
    c.loop-row-test.true c.requires.class c.run.result.now c.run.ensures.width c.run.ensures.are in
    let within = total_within k.weights ps.rows ps.classes ps.width c.requires.runs c.loop-row.row c.args.class
    c.loop-row-test.true c.requires.class in
    omega (arith, next, within, c.requires.room)

pub overflow_add-total : goal.overflow_add-total
overflow_add-total c =
    let k = c.args.self.now in
    let ps = c.args.places in
    let next = total_next k.weights ps.rows ps.classes ps.width c.requires.runs c.loop-row.row c.args.class
    c.loop-row-test.true c.requires.class c.run.result.now c.run.ensures.width c.run.ensures.are in
    let within = total_within k.weights ps.rows ps.classes ps.width c.requires.runs c.loop-row.row c.args.class
    c.loop-row-test.true c.requires.class in
    omega (arith, next, within, c.requires.room, c.run_total-total.ensures, c.loop-row.invariant)

pub loop-row-preserved : goal.loop-row-preserved
loop-row-preserved c =
    let k = c.args.self.now in
    let ps = c.args.places in
    (λ j. c.loop-row.invariant j + c.run_total-total.ensures j)
    ∙ total_next k.weights ps.rows ps.classes ps.width c.requires.runs c.loop-row.row c.args.class
    c.loop-row-test.true c.requires.class c.run.result.now c.run.ensures.width c.run.ensures.are
