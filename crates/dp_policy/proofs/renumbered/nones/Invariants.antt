use Rattle.std.proofs.Common.{◌≡◌, ℕ, None, get_or, length}
use Rattle.dp_policy.proofs.renumbered.nones.Given as goal

abbrev pub invariant-loop-place : goal.invariant-loop-place
invariant-loop-place l = record {
  counted : length l.all.items ≡ l._place;
  none : (k : ℕ) → get_or l.all.items k None ≡ None;
}
