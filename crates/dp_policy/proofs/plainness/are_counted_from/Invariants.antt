use Rattle.std.proofs.Common.{ℕ, ◌≡◌, ◌+◌, ◌<◌, get_or}
use Rattle.dp_policy.proofs.plainness.are_counted_from.Given as goal

abbrev pub invariant-loop-place : goal.invariant-loop-place
invariant-loop-place l = (o : ℕ) → o < l.place → get_or l.numbers o 0 ≡ l.first + o
