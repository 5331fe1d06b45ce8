use Rattle.std.proofs.Common.{◌≡◌, take}
use Rattle.dp_spec.specs.Front.{fixed_actions}
use Rattle.dp_cluster.proofs.front.Front.fixed_action.Given as goal

abbrev pub invariant-loop-agent : goal.invariant-loop-agent
invariant-loop-agent l = l.actions.items ≡ take l.agent (fixed_actions l.self.front.agents l.time l.own)
