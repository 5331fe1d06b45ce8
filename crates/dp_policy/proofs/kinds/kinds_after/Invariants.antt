use Rattle.std.proofs.Common.{◌≡◌, [], get_or, map}
use Rattle.std.specs.List.{range_with_len}
use Rattle.dp_spec.specs.SharedPolicy.{row_at}
use Rattle.dp_policy.proofs.kinds.kinds_after.Given as goal

abbrev pub invariant-loop-row : goal.invariant-loop-row
invariant-loop-row l =
    l.kinds.items ≡ map (λ r. get_or l.later
    (get_or (row_at (get_or l.policy.rows l.agent []) l.stage r).next l.seen 0) 0) (range_with_len 0 l.row)
