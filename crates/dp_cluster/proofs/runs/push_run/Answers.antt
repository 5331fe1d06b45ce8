use Rattle.std.proofs.Common.{rules}
use Rattle.std.proofs.lemmas.Int.{to_z-of_z}
use mir.Syntax.{w128}
use Rattle.dp_cluster.specs.OwnWeights.{low_end}
use Rattle.dp_base.proofs.MadeLists.{next_after}
use Rattle.dp_cluster.proofs.runs.push_run.Goals as goal

pub loop-weight-preserved : goal.loop-weight-preserved
loop-weight-preserved c =
    next_after (low_end c.args.run.now) c.args.weights.now.items c.loop-weight.weights.items
    c.push.new.self.items
    c.loop-weight.weight-index _ (to_z-of_z w128 (low_end c.args.run.now c.loop-weight.weight-index)
    (search rules)) c.in_ok-push.ensures.items c.loop-weight.invariant
