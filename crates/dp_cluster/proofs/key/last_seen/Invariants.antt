use Rattle.std.proofs.Common.{◌≡◌, take}
use Rattle.dp_cluster.specs.Keys.{last_seen}
use Rattle.dp_cluster.proofs.key.last_seen.Given as goal

abbrev pub invariant-loop-agent : goal.invariant-loop-agent
invariant-loop-agent l = l.seen.items ≡ take l.agent (last_seen l.m.model.observations l.own)
