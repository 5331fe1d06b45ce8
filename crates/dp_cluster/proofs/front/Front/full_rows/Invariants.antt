use Rattle.std.proofs.Common.{◌≡◌, ◌<◌, ℕ, [], length, map, get_or}
use Rattle.dp_cluster.specs.FullRows.{AreFullRows}
use Rattle.dp_cluster.proofs.front.Front.full_rows.Given as goal

abbrev pub invariant-loop-agent : goal.invariant-loop-agent
invariant-loop-agent l = record {
  count : length l.rows.items ≡ l.agent;
  are : (j : ℕ) → j < l.agent
      → AreFullRows l.m.model l.self j (get_or (map (λ s. map (λ r. r.items) s.items) l.rows.items) j []);
}
