use Rattle.std.proofs.Common.{◌≡◌, true}
use Rattle.dp_check.specs.Walks.{below_all, has_no_pair}
use Rattle.dp_check.proofs.classes.has_no_pairs.Given as goal

abbrev pub invariant-loop-agent : goal.invariant-loop-agent
invariant-loop-agent l = below_all (has_no_pair l.m.model l.front.front) l.agent ≡ true
