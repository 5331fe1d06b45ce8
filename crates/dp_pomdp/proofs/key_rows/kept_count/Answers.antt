use Rattle.std.proofs.Common.{◌≤◌, ◌^◌, arith}
use Rattle.dp_pomdp.proofs.KeyPlaces.{count_fits}
use Rattle.dp_pomdp.proofs.key_rows.kept_count.Goals as goal

pub overflow_mul-count : goal.overflow_mul-count
overflow_mul-count c =
    let is = c.loop-step.invariant in
    let few : c.args.most ≤ 2 ^ 32 = omega arith in
    let le : c.loop-step.count ≤ c.args.most = omega (arith, is) in
    let fits = count_fits c.loop-step.count c.args.pairs c.args.most le few c.requires.pairs in
    omega (arith, fits)
