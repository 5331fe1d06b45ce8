-- The rows that own histories reach.
use Rattle.std.proofs.Common.{◌≡◌, ℕ, suc, ◌<◌, ◌≤◌, List, length, get_or, drop, sym, ap, ◌∙◌}
use Rattle.std.proofs.Math.Seq.{drop-cons}
use Rattle.dp_spec.specs.PolicyTree.{PolicyTree, root_action}
use Rattle.dp_spec.specs.SharedPolicy.{AgentRows, row_at}
use Rattle.dp_laws.proofs.SharedTrees.{rows_tree, rows_tree_is, subtree_of_row}
use Rattle.dp_policy.specs.SharedRows.{remaining_after}
use Rattle.dp_policy.proofs.Lists.{drop_all}

-- one observation more
pub reached_step : (stages : AgentRows) (H : List ℕ) (q : PolicyTree) (t r : ℕ) → t < length H
    → get_or H t 0 < length (row_at stages t r).next → q ≡ remaining_after (rows_tree stages t r) (drop t H)
    → q ≡ remaining_after (rows_tree stages (suc t) (get_or (row_at stages t r).next (get_or H t 0) 0))
    (drop (suc t) H)
reached_step stages H q t r lt seen so_far =
    so_far
    ∙ ap (remaining_after (rows_tree stages t r)) (drop-cons H t 0 lt)
    ∙ ap (λ (k : PolicyTree). remaining_after k (drop (suc t) H))
    (subtree_of_row stages t r (get_or H t 0) seen)

-- with all observations followed
pub reached_end : (stages : AgentRows) (H : List ℕ) (q : PolicyTree) (t r : ℕ) → length H ≤ t
    → q ≡ remaining_after (rows_tree stages t r) (drop t H) → (row_at stages t r).action ≡ root_action q
reached_end stages H q t r le so_far =
    sym (ap root_action (so_far ∙ ap (remaining_after (rows_tree stages t r)) (drop_all H t le)
    ∙ rows_tree_is stages t r))
