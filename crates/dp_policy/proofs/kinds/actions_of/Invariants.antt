use Rattle.std.proofs.Common.{◌≡◌, [], get_or, map}
use Rattle.std.specs.List.{range_with_len}
use Rattle.dp_spec.specs.SharedPolicy.{row_at}
use Rattle.dp_policy.proofs.kinds.actions_of.Given as goal

abbrev pub invariant-loop-row : goal.invariant-loop-row
invariant-loop-row l =
    l.actions.items ≡ map (λ r. (row_at (get_or l.policy.rows l.agent []) l.stage r).action)
    (range_with_len 0 l.row)
