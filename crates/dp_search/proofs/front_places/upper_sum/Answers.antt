use Rattle.std.proofs.Common.{length, rules}
use Rattle.std.specs.Int.{w128}
use Rattle.std.proofs.lemmas.Int.{to_z-of_z}
use Rattle.dp_value.specs.WeightUpdates.{weights_of}
use Rattle.dp_search.proofs.UpperWeights.{sum_fits, sum_next}
use Rattle.dp_search.proofs.front_places.upper_sum.Goals as goal

pub overflow_add-total : goal.overflow_add-total
overflow_add-total c =
    let ws = c.args.weights.now in
    sum_fits (λ s. (weights_of ws s).high) c.loop-weight.weight-index (length ws) _ _ c.loop-weight-test.true
    c.requires.small c.loop-weight.invariant (to_z-of_z w128 _ (search rules))

pub loop-weight-preserved : goal.loop-weight-preserved
loop-weight-preserved c =
    let ws = c.args.weights.now in
    sum_next (λ s. (weights_of ws s).high) c.loop-weight.weight-index (length ws) _ _ c.loop-weight-test.true
    c.requires.small c.loop-weight.invariant (to_z-of_z w128 _ (search rules))
