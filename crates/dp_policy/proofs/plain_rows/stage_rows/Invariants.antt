use Rattle.std.proofs.Common.{ℕ, ◌≡◌, ◌<◌, get_or, length, Bor}
use Rattle.dp_spec.specs.SharedPolicy.{no_row}
use Rattle.dp_policy.specs.declared.tree.PTree.{PTree}
use Rattle.dp_policy.specs.TreeRows.{tree_row}
use Rattle.dp_policy.specs.TreeValue.{policy_tree}
use Rattle.dp_policy.proofs.plain_rows.stage_rows.Given as goal

abbrev pub invariant-loop-number : goal.invariant-loop-number
invariant-loop-number l = record {
  counted : length l.rows.items ≡ l.number;
  each : (c : ℕ) → c < l.number → (d : Bor PTree)
      → get_or l.rows.items c no_row ≡ tree_row l.observations l.nexts (policy_tree (get_or l.trees c d).now) c;
}
