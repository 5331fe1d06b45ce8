use Rattle.std.proofs.Common.{ℕ, ◌≡◌, ◌+◌, ◌*◌, ◌<◌, [], get_or}
use Rattle.dp_spec.specs.SharedPolicy.{row_at}
use Rattle.dp_policy.proofs.shared.Shared.goes_on_plainly.Given as goal

abbrev pub invariant-loop-row : goal.invariant-loop-row
invariant-loop-row l =
    (r o : ℕ) → r < l.row → o < l.observations
    → get_or (row_at (get_or l.self.rows l.agent []) l.stage r).next o 0 ≡ r * l.observations + o
