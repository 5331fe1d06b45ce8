use Rattle.dp_spec.specs.Arithmetic.{span_add}
use Rattle.dp_value.specs.WeightUpdates.{weights_of}
use Rattle.dp_base.proofs.MadeLists.{next_after}
use Rattle.dp_cluster.proofs.join.push_sums.Goals as goal

pub loop-at-preserved : goal.loop-at-preserved
loop-at-preserved c =
    next_after (λ j. span_add (weights_of c.args.one.now j) (weights_of c.args.other.now j))
    c.args.weights.now.items c.loop-at.weights.items _ c.loop-at.at _ c.add_spans.ensures c.in_ok-push.ensures.items
    c.loop-at.invariant
