-- Bound trees: the tree of a certificate.
use Rattle.std.specs.Prelude.{ℕ, suc, ◌+◌, ◌≤◌, max, ℤ, pos, ◌≤ℤ◌}
use Rattle.std.specs.Int.{int_max}

-- a leaf with its bound; a branch on the actions of an agent's class; two classes of an agent merged
mutual
  pub data BoundTree : Type 0 where
    leaf : ℤ → BoundTree
    branch : ℕ → ℕ → BoundTrees → BoundTree
    merge : ℕ → ℕ → ℕ → BoundTree → BoundTree

  pub data BoundTrees : Type 0 where
    no_bound_trees : BoundTrees
    more_bound_trees : BoundTree → BoundTrees → BoundTrees

abbrev mutual
  -- no leaf states a greater bound
  pub LeavesAtMost : ℤ → BoundTree → Type 0
  LeavesAtMost u (leaf x) = x ≤ℤ u
  LeavesAtMost u (branch i c ks) = AllLeavesAtMost u ks
  LeavesAtMost u (merge i a b k) = LeavesAtMost u k

  pub AllLeavesAtMost : ℤ → BoundTrees → Type 0
  AllLeavesAtMost u no_bound_trees = Unit {0}
  AllLeavesAtMost u (more_bound_trees k ks) = LeavesAtMost u k × AllLeavesAtMost u ks

abbrev mutual
  -- how many branches and merges a tree has
  pub inner_count : BoundTree → ℕ
  inner_count (leaf x) = 0
  inner_count (branch i c ks) = suc (inner_counts ks)
  inner_count (merge i a b k) = suc (inner_count k)

  pub inner_counts : BoundTrees → ℕ
  inner_counts no_bound_trees = 0
  inner_counts (more_bound_trees k ks) = inner_count k + inner_counts ks

abbrev mutual
  -- how many nodes a tree has, leaves too
  pub node_count : BoundTree → ℕ
  node_count (leaf x) = 1
  node_count (branch i c ks) = suc (node_counts ks)
  node_count (merge i a b k) = suc (node_count k)

  pub node_counts : BoundTrees → ℕ
  node_counts no_bound_trees = 0
  node_counts (more_bound_trees k ks) = node_count k + node_counts ks

-- how many trees a list has
abbrev pub child_count : BoundTrees → ℕ
child_count no_bound_trees = 0
child_count (more_bound_trees k ks) = child_count ks + 1

abbrev mutual
  -- each branch has from 1 to 256 children
  pub HasSmallBranches : BoundTree → Type 0
  HasSmallBranches (leaf x) = Unit {0}
  HasSmallBranches (branch i c ks) = (1 ≤ child_count ks) × (child_count ks ≤ 256) × HaveSmallBranches ks
  HasSmallBranches (merge i a b k) = HasSmallBranches k

  pub HaveSmallBranches : BoundTrees → Type 0
  HaveSmallBranches no_bound_trees = Unit {0}
  HaveSmallBranches (more_bound_trees k ks) = HasSmallBranches k × HaveSmallBranches ks

abbrev mutual
  -- the greatest number of branches and merges on a path from the root to a leaf
  pub depth_of : BoundTree → ℕ
  depth_of (leaf x) = 0
  depth_of (branch i c ks) = suc (greatest_depth ks)
  depth_of (merge i a b k) = suc (depth_of k)

  pub greatest_depth : BoundTrees → ℕ
  greatest_depth no_bound_trees = 0
  greatest_depth (more_bound_trees k ks) = max (depth_of k) (greatest_depth ks)

abbrev mutual
  -- the greatest bound that a leaf states
  pub greatest_leaf : BoundTree → ℤ
  greatest_leaf (leaf x) = x
  greatest_leaf (branch i c ks) = greatest_leaf_of ks
  greatest_leaf (merge i a b k) = greatest_leaf k

  pub greatest_leaf_of : BoundTrees → ℤ
  greatest_leaf_of no_bound_trees = pos 0
  greatest_leaf_of (more_bound_trees k no_bound_trees) = greatest_leaf k
  greatest_leaf_of (more_bound_trees k (more_bound_trees k' ks)) =
      int_max (greatest_leaf k) (greatest_leaf_of (more_bound_trees k' ks))
