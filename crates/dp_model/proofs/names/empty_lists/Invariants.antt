use Rattle.std.proofs.Common.{◌≡◌, [], replicate}
use Rattle.dp_model.proofs.names.empty_lists.Given as goal

abbrev pub invariant-loop-agent : goal.invariant-loop-agent
invariant-loop-agent l = l.lists.items ≡ replicate l._agent []
