use Rattle.std.proofs.Common.{◌≡◌, take}
use Rattle.dp_cluster.specs.Keys.{without_last}
use Rattle.dp_cluster.proofs.key.without_last.Given as goal

abbrev pub invariant-loop-agent : goal.invariant-loop-agent
invariant-loop-agent l = l.before.items ≡ take l.agent (without_last l.m.model.observations l.own)
