use Rattle.std.proofs.Common.{◌≡◌, ℕ, ◌<◌}
use Rattle.dp_pomdp.specs.Looking.{weights_of}
use Rattle.dp_pomdp.proofs.memo.are_same.Given as goal

abbrev pub invariant-loop-at : goal.invariant-loop-at
invariant-loop-at l = (s : ℕ) → s < l.at → weights_of l.some s ≡ weights_of l.others s
