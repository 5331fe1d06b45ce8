use Rattle.std.proofs.Common.{◌≡◌, ◌<◌, [], get_or, drop}
use Rattle.dp_spec.specs.SharedPolicy.{row_count, unfolded_tree}
use Rattle.dp_laws.proofs.SharedTrees.{rows_tree}
use Rattle.dp_policy.specs.SharedRows.{remaining_after}
use Rattle.dp_policy.proofs.shared.Shared.action_at.Given as goal

abbrev pub invariant-loop-stage : goal.invariant-loop-stage
invariant-loop-stage l = record {
  row : l.row < row_count (get_or l.self.rows l.agent []) l.stage;
  reached : remaining_after (unfolded_tree (get_or l.self.rows l.agent []) 0) l.history
      ≡ remaining_after (rows_tree (get_or l.self.rows l.agent []) l.stage l.row) (drop l.stage l.history);
}
