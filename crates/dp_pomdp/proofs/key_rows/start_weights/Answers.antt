use Rattle.std.proofs.Common.{ap, ◌∙◌}
use Rattle.dp_pomdp.specs.Keys.{start_weights}
use Rattle.dp_pomdp.proofs.KeyRows.{next_made}
use Rattle.dp_pomdp.proofs.key_rows.start_weights.Goals as goal

pub loop-state-preserved : goal.loop-state-preserved
loop-state-preserved g c =
    next_made (start_weights (g.A.Arith.operations c.args.arith.now) c.args.model.now.model)
    c.loop-state.weights.items c.push.new.self.items c.loop-state.state _
    (c.start-in-loop-state.ensures ∙ ap (g.A.Arith.operations c.args.arith.now).start c.start.ensures)
    c.in_ok-push.ensures.items c.loop-state.invariant
