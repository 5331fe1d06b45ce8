use Rattle.std.proofs.Common.{length, arith}
use Rattle.dp_base.proofs.NaturalSumLaws.{nat_sum_part}
use Rattle.dp_cluster.specs.OwnWeights.{low_at}
use Rattle.dp_cluster.proofs.runs.run_total.Goals as goal

pub overflow_add-total : goal.overflow_add-total
overflow_add-total c =
    let run = c.args.run.now in
    let part = nat_sum_part c.loop-weight.weight-index (length run) (low_at run)
    c.loop-weight.auto.weight-index-end in
    omega (arith, part, c.loop-weight.invariant, c.unsigned_abs-total.ensures.bound, c.requires)
