-- An arena is one tree: each number stands in it once.
use Rattle.std.specs.Prelude.{ℕ, suc, ◌+◌, ◌<◌, ◌≤◌, ◌≡◌, ◌==◌, cond, List, length}
use Rattle.dp_spec.specs.BoundTree.{BoundTree, BoundTrees, leaf, branch, merge, no_bound_trees, more_bound_trees}
use Rattle.dp_spec.specs.BoundTree.{inner_count}
use Rattle.dp_spec.specs.declared.step.Step.{Step}
use Rattle.dp_spec.specs.declared.step.Step.TheVariants.{Branch, Merge}
use Rattle.dp_spec.specs.declared.node.NodeKind.{NodeKind}
use Rattle.dp_spec.specs.declared.node.NodeKind.TheVariants.{Leaf, Inner}
use Rattle.dp_spec.specs.declared.node.ArenaNode.{ArenaNode}
use Rattle.dp_spec.specs.Arena.{kind_at, above_at, inner_nodes, IsTreeAt}

-- the number of a step's first child
abbrev pub first_child_of : NodeKind → ℕ
first_child_of (Leaf x) = 0
first_child_of (Inner s f n) = f

-- 1 where the numbers are the same
abbrev pub once_if : ℕ → ℕ → ℕ
once_if i j = cond (i == j) 1 0

abbrev mutual
  -- how often number i stands in the tree that begins at node j
  pub times_at : List ArenaNode → ℕ → ℕ → BoundTree → ℕ
  times_at ns i j (leaf x) = once_if i j
  times_at ns i j (branch a c Ts) = once_if i j + times_in ns i (first_child_of (kind_at ns j)) Ts
  times_at ns i j (merge a b c T) = once_if i j + times_at ns i (first_child_of (kind_at ns j)) T

  -- the same of trees that begin at node f and the next ones
  pub times_in : List ArenaNode → ℕ → ℕ → BoundTrees → ℕ
  times_in ns i f no_bound_trees = 0
  times_in ns i f (more_bound_trees T Ts) = times_at ns i f T + times_in ns i (suc f) Ts

-- how many children a step has
abbrev pub HasChildren : Step → ℕ → Type 0
HasChildren (Branch i c) n = 0 < n
HasChildren (Merge i a b) n = n ≡ 1

-- The nodes are those of one tree.
pub record IsArena (ns : List ArenaNode) : Type 0 where
  pub tree : BoundTree
  pub at : IsTreeAt ns 0 tree
  pub counted : inner_count tree ≡ inner_nodes ns
  pub once : (i : ℕ) → i < length ns → times_at ns i 0 tree ≡ 1
  -- children have greater numbers
  pub later : (k : ℕ) (s : Step) (f n : ℕ) → k < length ns → kind_at ns k ≡ Inner s f n
      → (k < f) × ((f + n ≤ length ns) × HasChildren s n)
  pub root : above_at ns 0 ≡ 0
  -- and one step more above them
  pub deeper : (k : ℕ) (s : Step) (f n : ℕ) → k < length ns → kind_at ns k ≡ Inner s f n → (j : ℕ) → j < n
      → above_at ns (f + j) ≡ suc (above_at ns k)
  pub shallow : (k : ℕ) → k < length ns → above_at ns k ≤ 2048
