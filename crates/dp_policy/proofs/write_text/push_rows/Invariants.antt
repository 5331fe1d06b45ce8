use Rattle.std.proofs.Common.{◌≡◌, ◌++◌, map}
use Rattle.std.specs.List.{range_with_len}
use Rattle.dp_policy.specs.ActionRows.{actions_below}
use Rattle.dp_policy.specs.PolicyBytes.{rows_bytes}
use Rattle.dp_policy.specs.TreeValue.{policy_tree}
use Rattle.dp_policy.proofs.write_text.push_rows.Given as goal

-- the rows so far
abbrev pub invariant-loop-stage : goal.invariant-loop-stage
invariant-loop-stage l =
    l.text.items ≡ l.fn.text.items ++ rows_bytes (map (λ t. actions_below t (policy_tree l.tree))
    (range_with_len 0 l.stage))
