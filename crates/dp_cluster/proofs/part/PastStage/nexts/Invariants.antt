use Rattle.std.proofs.Common.{◌≡◌, ◌+◌, ◌*◌, map}
use Rattle.std.specs.List.{range_with_len}
use Rattle.dp_cluster.specs.AgentParts.{class_led_to}
use Rattle.dp_cluster.proofs.part.PastStage.nexts.Given as goal

abbrev pub invariant-loop-seen : goal.invariant-loop-seen
invariant-loop-seen l = l.next.items ≡ map (λ o. class_led_to l.self (l.class * l.observations + o))
    (range_with_len 0 l.seen)
