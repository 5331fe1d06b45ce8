-- Trees within limits on their nodes, their paths and their branches. (Own.)
use Rattle.std.specs.Prelude.{ℕ, ◌≤◌}
use Rattle.dp_spec.specs.BoundTree.{BoundTree, HasSmallBranches, depth_of, node_count}

-- at most so many branches and merges on a path, at most so many nodes, and from 1 to 256 children in each branch
pub record IsSmallTree (deepest most : ℕ) (T : BoundTree) : Type 0 where
  pub depth : depth_of T ≤ deepest
  pub nodes : node_count T ≤ most
  pub children : HasSmallBranches T
