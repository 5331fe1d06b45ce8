use Rattle.std.proofs.Common.{get_or, ◌∙◌}
use Rattle.dp_cluster.specs.FullRows.{class_row}
use Rattle.dp_cluster.proofs.OwnParts.{next_made}
use Rattle.dp_cluster.proofs.part.PastStage.rows.Goals as goal

pub loop-class-preserved : goal.loop-class-preserved
loop-class-preserved c =
    next_made (class_row c.args.observations c.args.nexts c.args.self.now) c.loop-class.rows.items
    c.push.new.self.items c.loop-class.class _
    (λ j. record {
      action = get_or (c.deref-actions.ensures.value j) c.loop-class.class 0;
      next = (c.of.ensures ∙ c.in_ok-next.ensures) j;
    })
    c.in_ok-push.ensures.items c.loop-class.invariant
