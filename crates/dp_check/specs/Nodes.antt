-- The nodes of a bound tree as the code holds them. (Own.)
use Rattle.std.specs.Prelude.{suc, ◌≤◌, ◌≡◌, List}
use Rattle.std.specs.Int.{int_min}
use Rattle.dp_spec.specs.BoundTree.{BoundTree}
use Rattle.dp_spec.specs.Fitting.{front_bound}
use Rattle.dp_spec.specs.Front.{Front}
use Rattle.dp_spec.specs.Model.{Model}
use Rattle.dp_spec.specs.Qualities as qualities
use Rattle.dp_spec.specs.Qualities.{nodes_of}
use Rattle.dp_check.specs.declared.bounds.Bounds.{Bounds}
use Rattle.dp_check.specs.declared.node.Node.{Node}
use Rattle.dp_check.specs.Bounding.{AreLookAheads, IsWithRoom, arithmetic_of}

-- a front with room, with the look-aheads of its weights, below at most 2048 branches and merges
pub record IsNodeOf (m : Model) (b : Bounds) (n : Node) : Type 0 where
  pub front : IsWithRoom m b n.front
  pub looks : AreLookAheads m b n.front.front n.looks.value.items
  pub above : n.above ≤ 2048

-- the node where a tree begins at it
abbrev pub node_with : BoundTree → Node → qualities.Node
node_with T n = record { tree = T; above = n.above; front = n.front.front; cap = n.cap }

-- the nodes of that tree in preorder
abbrev pub nodes_at : Model → Bounds → BoundTree → Node → List qualities.Node
nodes_at m b T n = nodes_of (arithmetic_of m b) m b.fit.horizon b.look n.above T n.front.front n.cap

-- A node below another, with front F: one branch or merge more stands above it, and the least bound on its path is
-- the lesser of the other's and that of its front.
pub record IsBelow (m : Model) (b : Bounds) (n : Node) (F : Front) (child : Node) : Type 0 where
  pub of_model : IsNodeOf m b child
  pub front : child.front.front ≡ F
  pub above : child.above ≡ suc n.above
  pub cap : child.cap ≡ int_min n.cap (front_bound (arithmetic_of m b) m b.fit.horizon b.look F)
