use Rattle.std.proofs.Common.{suc, sym, arith}
use Rattle.dp_base.proofs.NaturalSumLaws.{nat_sum_part}
use Rattle.dp_sim.proofs.RowDraws.{drawn_is}
use Rattle.dp_sim.proofs.draw.drawn.Goals as goal

pub overflow_add-sum : goal.overflow_add-sum
overflow_add-sum g c =
    let row = c.requires.row.0 in
    let gives = c.requires.row.1 in
    let i = c.loop-index.index in
    let lt = c.loop-index-test.true in
    let sum = c.loop-index.invariant.summed row gives in
    let cell = gives.gives i c.cell-sum.result lt c.cell-sum.ensures in
    let most = nat_sum_part (suc i) c.args.count row (omega (arith, lt)) in
    omega (arith, sum, cell, most, gives.sums, c.requires.limit)

pub returns-then-sum-number-clause-is : goal.returns-then-sum-number-clause-is
returns-then-sum-number-clause-is g c row gives =
    let i = c.loop-index.index in
    let lt = c.loop-index-test.true in
    let sum = c.loop-index.invariant.summed row gives in
    let cell = gives.gives i c.cell-sum.result lt c.cell-sum.ensures in
    let over = rw (c.from.ensures, c.from-2.ensures) at c.if-sum-number.true in
    sym (drawn_is c.args.count c.args.scale row c.args.word i lt
    (omega (arith, sum, c.loop-index.invariant.passed)) (omega (arith, over, sum, cell)))
