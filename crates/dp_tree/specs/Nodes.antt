-- What contracts see of an arena. (Own.)
use Rattle.std.specs.Prelude.{ℕ, ◌<◌, ◌≤◌, ◌^◌, List, length}
use Rattle.dp_spec.specs.declared.node.ArenaNode.{ArenaNode}
use Rattle.dp_spec.specs.declared.node.NodeKind.{NodeKind}
use Rattle.dp_spec.specs.declared.node.NodeKind.TheVariants.{Leaf, Inner}
use Rattle.dp_spec.specs.WholeTree.{IsArena}

-- the nodes in order of their numbers, and how many there may be
pub record Nodes : Type 0 where
  pub nodes : List ArenaNode
  pub most : ℕ

-- the nodes are those of one tree, and not more than there may be
pub record IsArenaWithin (ns : List ArenaNode) (most : ℕ) : Type 0 where
  pub arena : IsArena ns
  pub few : length ns ≤ most
  pub small : most < 2 ^ 32

-- a leaf stands at the number
abbrev pub IsLeaf : NodeKind → Type 0
IsLeaf (Leaf x) = Unit {0}
IsLeaf (Inner s f n) = ⊥
