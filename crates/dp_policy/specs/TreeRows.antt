-- Rows made of trees that a list of references holds. (Own.)
use Rattle.std.specs.Prelude.{ℕ, ◌+◌, ◌*◌, ◌/◌, ◌%◌, ◌^◌, ◌<◌, ◌≤◌, ◌≡◌, List, map, length, get_or}
use Rattle.std.specs.List.{range_with_len}
use Rattle.std.proofs.Common.{Bor}
use Rattle.dp_spec.specs.PolicyTree.{PolicyTree, root_action, subtree, subtrees}
use Rattle.dp_spec.specs.Keeping.{tree_at}
use Rattle.dp_spec.specs.SharedPolicy.{PolicyRow, no_row}
use Rattle.dp_policy.specs.declared.tree.PTree.{PTree}
use Rattle.dp_policy.specs.TreeValue.{policy_tree}
use Rattle.dp_policy.specs.Trees.{tree_count}

-- the trees that remain of the tree q after the own histories of length t over n observations, in their order
pub record AreTreesAt (n : ℕ) (q : PolicyTree) (t : ℕ) (trees : List (Bor PTree)) : Type 0 where
  pub counted : length trees ≡ n ^ t
  pub each : (x : ℕ) → x < n ^ t → (d : Bor PTree) → policy_tree (get_or trees x d).now ≡ tree_at n q t x

-- what remains of each of the trees after each of n observations, tree by tree
pub record AreSubtrees (n : ℕ) (trees subs : List (Bor PTree)) : Type 0 where
  pub counted : length subs ≡ length trees * n
  pub each : (x : ℕ) → x < length trees * n → (d : Bor PTree)
      → policy_tree (get_or subs x d).now ≡ subtree (policy_tree (get_or trees (x / n) d).now) (x % n)

-- each of the trees goes on after at least n observations
pub record GoOn (n : ℕ) (trees : List (Bor PTree)) : Type 0 where
  pub each : (x : ℕ) → x < length trees → (d : Bor PTree)
      → n ≤ tree_count (subtrees (policy_tree (get_or trees x d).now))

-- the row of number c of a tree, which goes on to row c * n + o after each of so many observations o
abbrev pub tree_row : ℕ → ℕ → PolicyTree → ℕ → PolicyRow
tree_row n nexts q c = record { action = root_action q; next = map (λ o. c * n + o) (range_with_len 0 nexts) }

-- a row for each of the trees
pub record AreRowsOfTrees (n nexts : ℕ) (trees : List (Bor PTree)) (rows : List PolicyRow) : Type 0 where
  pub counted : length rows ≡ length trees
  pub each : (c : ℕ) → c < length trees → (d : Bor PTree)
      → get_or rows c no_row ≡ tree_row n nexts (policy_tree (get_or trees c d).now) c
