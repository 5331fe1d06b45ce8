use Rattle.std.proofs.Common.{◌+◌, ◌*◌}
use Rattle.dp_cluster.specs.AgentParts.{class_led_to}
use Rattle.dp_cluster.proofs.OwnParts.{next_made}
use Rattle.dp_cluster.proofs.part.PastStage.nexts.Goals as goal

pub loop-seen-preserved : goal.loop-seen-preserved
loop-seen-preserved c =
    next_made (λ o. class_led_to c.args.self.now (c.args.class * c.args.observations + o))
    c.loop-seen.next.items c.push.new.self.items c.loop-seen.seen c.link.result c.link.ensures
    c.in_ok-push.ensures.items c.loop-seen.invariant
