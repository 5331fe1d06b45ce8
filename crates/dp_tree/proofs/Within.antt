-- An arena stays one tree, and not too large, as it grows.
use Rattle.std.proofs.Common.{◌≡◌, ℕ, suc, ◌+◌, ◌<◌, ◌≤◌, ◌^◌, ℤ, List, [], ◌∷◌, ◌++◌, length, get_or, set, refl, ap}
use Rattle.std.proofs.Common.{◌∙◌, arith, length-append}
use Rattle.std.proofs.lemmas.List.{set-append_left, length-map, get_or_default}
use Rattle.std.proofs.Math.ListN.{get_or-append, length-set}
use Rattle.dp_spec.specs.BoundTree.{BoundTree, leaf, branch, merge, inner_count}
use Rattle.dp_spec.specs.declared.step.Step.{Step}
use Rattle.dp_spec.specs.declared.step.Step.TheVariants.{Branch, Merge}
use Rattle.dp_spec.specs.declared.node.NodeKind.{NodeKind}
use Rattle.dp_spec.specs.declared.node.NodeKind.TheVariants.{Leaf, Inner}
use Rattle.dp_spec.specs.declared.node.ArenaNode.{ArenaNode}
use Rattle.dp_spec.specs.Arena.{no_node, kind_at, above_at, leaves_at, inner_nodes, IsTreeAt, grown}
use Rattle.dp_spec.specs.WholeTree.{HasChildren, IsArena}
use Rattle.dp_laws.proofs.ArenaTrees.{arena_grows_at, arena_starts, tree_counted}
use Rattle.dp_tree.specs.Nodes.{IsArenaWithin, IsLeaf}

pub starts_within : (x : ℤ) (most : ℕ) → 0 < most → most < 2 ^ 32
    → IsArenaWithin (record { above = 0; kind = Leaf x } ∷ []) most
starts_within x most some small = record { arena = arena_starts x; few = omega arith; small = small }

leaf_of : (kind : NodeKind) → IsLeaf kind → (x : ℤ) × (kind ≡ Leaf x)
leaf_of (Leaf x) is = (x, refl)
leaf_of (Inner s f n) is = absurd is

-- the write to the leaf may come after its children
pub grown_as_set : (ns : List ArenaNode) (k : ℕ) (s : Step) (xs : List ℤ) → k < length ns
    → set (ns ++ leaves_at (suc (above_at ns k)) xs) k (record {
      above = above_at ns k;
      kind = Inner s (length ns)
          (length xs);
    }) ≡ grown ns k s xs
unfolding grown
grown_as_set ns k s xs lt = set-append_left ns (leaves_at (suc (above_at ns k)) xs) k (record {
  above = above_at ns
      k;
  kind = Inner s (length ns) (length xs);
}) lt

pub grown_length : (ns : List ArenaNode) (k : ℕ) (s : Step) (xs : List ℤ)
    → length (grown ns k s xs) ≡ length ns + length xs
unfolding grown
grown_length ns k s xs =
    let x : ArenaNode = record { above = above_at ns k; kind = Inner s (length ns) (length xs) } in
    let leaf_node : ℤ → ArenaNode = λ y. record { above = suc (above_at ns k); kind = Leaf y } in
    omega (
      arith,
      length-append (set ns k x) (leaves_at (suc (above_at ns k)) xs),
      length-set ns k x,
      length-map xs leaf_node,
    )

pub grows_within : (ns : List ArenaNode) (k : ℕ) (s : Step) (xs : List ℤ) (most : ℕ) → IsArenaWithin ns most
    → k < length ns → IsLeaf (kind_at ns k)
    → above_at ns k < 2048 → HasChildren s (length xs) → length ns + length xs ≤ most
    → IsArenaWithin (grown ns k s xs) most
grows_within ns k s xs most is lt at_leaf shallow children room =
    let x = leaf_of (kind_at ns k) at_leaf in
    record {
      arena = arena_grows_at ns k x.0 s xs lt x.1 children shallow is.arena;
      few = omega (arith, grown_length ns k s xs);
      small = is.small;
    }

-- ---- what the code of `grow` writes

-- the code's nodes after a step: `node` is what it read at the leaf, `last` what it wrote over
pub written : (ns made children : List ArenaNode) (k : ℕ) (s : Step) (xs : List ℤ) (node last : ArenaNode)
    → k < length ns → made ≡ ns → node ≡ get_or made k node
    → children ≡ leaves_at (node.above + 1) xs → last ≡ get_or (made ++ children) k last →
    set (made ++ children) k (record { above = last.above; kind = Inner s (length made) (length xs) }) ≡ grown ns k
    s xs
written ns made children k s xs node last lt same read made_children overwritten =
    let long : k < length made = omega (arith, ap length same) in
    let here : node ≡ get_or made k no_node = read ∙ get_or_default made k node no_node long in
    let depth : node.above ≡ above_at ns k = ap (λ (n : ArenaNode). n.above) here ∙ ap (λ z. above_at z k) same in
    let over : last ≡ get_or made k no_node = overwritten ∙ get_or-append made children last k long
    ∙ get_or_default made k last no_node long in
    let depth' : last.above ≡ above_at ns k = ap (λ (n : ArenaNode). n.above) over ∙ ap (λ z. above_at z k) same in
    let next : node.above + 1 ≡ suc (above_at ns k) = omega arith in
    let children_are : children ≡ leaves_at (suc (above_at ns k)) xs = made_children
    ∙ ap (λ d. leaves_at d xs) next in
    let counted : length made ≡ length ns = ap length same in
    ap (λ z. set (z ++ children) k (record { above = last.above; kind = Inner s (length made) (length xs) })) same
    ∙ ap (λ z. set (ns ++ z) k (record { above = last.above; kind = Inner s (length made) (length xs) })) children_are
    ∙ ap (λ d. set (ns ++ leaves_at (suc (above_at ns k)) xs) k (record {
      above = d;
      kind = Inner s (length made)
          (length xs);
    })) depth'
    ∙ ap (λ n. set (ns ++ leaves_at (suc (above_at ns k)) xs) k (record {
      above = above_at ns k;
      kind = Inner s n
          (length xs);
    })) counted
    ∙ grown_as_set ns k s xs lt

-- a tree begins at one of the nodes
within_nodes : (ns : List ArenaNode) (k : ℕ) (T : BoundTree) → IsTreeAt ns k T → k < length ns
within_nodes ns k (leaf x) at = at.0
within_nodes ns k (branch i c Ts) at = at.0
within_nodes ns k (merge i a b T) at = at.0

pub some_node : (ns : List ArenaNode) → IsArena ns → 0 < length ns
some_node ns arena = within_nodes ns 0 arena.tree arena.at

-- a tree of an arena's nodes has as many steps as they
pub counted_below : (ns items : List ArenaNode) (T : BoundTree) → items ≡ ns → IsArena items
    → IsTreeAt items 0 T → inner_count T ≡ inner_nodes ns
counted_below ns items T same arena at = tree_counted items T arena at ∙ ap inner_nodes same
