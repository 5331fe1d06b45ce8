use Rattle.std.proofs.Common.{◌≡◌, ◌<◌, ℕ, length, get_or}
use Rattle.dp_pomdp.specs.Keys.{AreKeyWeights, no_key_weights}
use Rattle.dp_pomdp.proofs.key_rows.key_rows.Given as goal

abbrev pub invariant-loop-place : goal.invariant-loop-place
invariant-loop-place l = record {
  filled : length l.rows.items ≡ l.place;
  rows : (p : ℕ) → p < l.place → AreKeyWeights l.fit.exact l.model.model p (get_or l.rows.items p no_key_weights);
}
