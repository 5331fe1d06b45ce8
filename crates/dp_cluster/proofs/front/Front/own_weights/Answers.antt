use Rattle.dp_cluster.proofs.RunsOfWeights.{weights_next}
use Rattle.dp_cluster.proofs.front.Front.own_weights.Goals as goal

pub loop-row-preserved : goal.loop-row-preserved
loop-row-preserved c =
    let ps = c.args.places in
    weights_next c.args.self.now.weights ps.rows ps.classes ps.width c.requires.runs c.loop-row.row c.args.class
    c.loop-row-test.true c.requires.class c.run.result.now _ _ c.run.ensures.width c.run.ensures.are
    c.loop-row.invariant c.in_ok-push_run.ensures
