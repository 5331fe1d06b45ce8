-- The nodes of an arena, in order of their numbers, and the tree that they are.
use Rattle.std.specs.Prelude.{ℕ, suc, ◌<◌, ◌≡◌, List, ◌++◌, map, length, get_or, set, sum_by, ℤ, pos}
use Rattle.dp_spec.specs.BoundTree.{BoundTree, BoundTrees, leaf, branch, merge, no_bound_trees, more_bound_trees}
use Rattle.dp_spec.specs.declared.step.Step.{Step}
use Rattle.dp_spec.specs.declared.step.Step.TheVariants.{Branch, Merge}
use Rattle.dp_spec.specs.declared.node.NodeKind.{NodeKind}
use Rattle.dp_spec.specs.declared.node.NodeKind.TheVariants.{Leaf, Inner}
use Rattle.dp_spec.specs.declared.node.ArenaNode.{ArenaNode}

-- what stands at no number
abbrev pub no_node : ArenaNode
no_node = record { above = 0; kind = Leaf (pos 0) }

-- what stands at number k
abbrev pub kind_at : List ArenaNode → ℕ → NodeKind
kind_at ns k = (get_or ns k no_node).kind

-- how many steps stand above node k
abbrev pub above_at : List ArenaNode → ℕ → ℕ
above_at ns k = (get_or ns k no_node).above

-- 1 for a step
abbrev pub step_count : NodeKind → ℕ
step_count (Leaf x) = 0
step_count (Inner s f n) = 1

-- how many nodes are steps
abbrev pub inner_nodes : List ArenaNode → ℕ
inner_nodes ns = sum_by (λ n. step_count n.kind) ns

abbrev mutual
  -- the tree that begins at node k
  pub IsTreeAt : List ArenaNode → ℕ → BoundTree → Type 0
  IsTreeAt ns k (leaf x) = (k < length ns) × (kind_at ns k ≡ Leaf x)
  IsTreeAt ns k (branch i c Ts) =
      (k < length ns) × ((f : ℕ) × ((n : ℕ) × ((kind_at ns k ≡ Inner (Branch i c) f n) × AreTreesAt ns f n Ts)))
  IsTreeAt ns k (merge i a b T) =
      (k < length ns) × ((f : ℕ) × ((kind_at ns k ≡ Inner (Merge i a b) f 1) × IsTreeAt ns f T))

  -- the n trees that begin at node f and the next ones
  pub AreTreesAt : List ArenaNode → ℕ → ℕ → BoundTrees → Type 0
  AreTreesAt ns f n no_bound_trees = n ≡ 0
  AreTreesAt ns f n (more_bound_trees T Ts) = (r : ℕ) × ((n ≡ suc r) × (IsTreeAt ns f T × AreTreesAt ns (suc f) r Ts))

-- leaves with these bounds, with so many steps above each
abbrev pub leaves_at : ℕ → List ℤ → List ArenaNode
leaves_at above xs = map (λ x. record { above = above; kind = Leaf x }) xs

-- the nodes after leaf k was turned into a step whose children are leaves with these bounds
unfoldable pub grown : List ArenaNode → ℕ → Step → List ℤ → List ArenaNode
grown ns k st xs =
    set ns k (record { above = above_at ns k; kind = Inner st (length ns) (length xs) })
    ++ leaves_at (suc (above_at ns k)) xs
