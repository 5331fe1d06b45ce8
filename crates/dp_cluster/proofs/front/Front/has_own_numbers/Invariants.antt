use Rattle.std.proofs.Common.{◌<◌, ℕ}
use Rattle.dp_cluster.specs.Keys.{HasNumbersAt}
use Rattle.dp_cluster.proofs.front.Front.has_own_numbers.Given as goal

abbrev pub invariant-loop-agent : goal.invariant-loop-agent
invariant-loop-agent l = (i : ℕ) → i < l.agent → HasNumbersAt l.m.model l.self i
