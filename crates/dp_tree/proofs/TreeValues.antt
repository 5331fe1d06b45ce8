-- The trees of consecutive nodes, one more.
use Rattle.std.proofs.Common.{◌≡◌, ℕ, suc, ◌+◌, ℤ, List, [], ◌∷◌, ◌++◌, map, sym, ap, subst, ◌∙◌, arith}
use Rattle.dp_spec.specs.BoundTree.{BoundTree, leaf, branch, merge}
use Rattle.dp_spec.specs.declared.node.ArenaNode.{ArenaNode}
use Rattle.dp_spec.specs.Arena.{IsTreeAt, AreTreesAt}
use Rattle.dp_tree.specs.declared.tree.Tree.TheBlock as block
use Rattle.dp_tree.specs.declared.tree.Tree.TheViews as views
use Rattle.dp_tree.specs.declared.tree.Tree.TheVariants as variants
use Rattle.dp_tree.specs.declared.tree.Tree.TheFolds.{fold-Tree, fold-roll-Tree}
use Rattle.dp_tree.specs.TreeValue.{bound_trees, bound_tree, bound_tree_node}

pub trees_more : (ns : List ArenaNode) (ts : List BoundTree) (t : BoundTree) (f n : ℕ)
    → AreTreesAt ns f n (bound_trees ts) → IsTreeAt ns (f + n) t
    → AreTreesAt ns f (n + 1) (bound_trees (ts ++ t ∷ []))
trees_more ns [] t f n at more =
    let e : f + n ≡ f = omega (arith, at) in
    (n, (omega (arith, at), (subst (λ (z : ℕ). IsTreeAt ns z t) e more, at)))
trees_more ns (u ∷ ts) t f n at more =
    let e : f + n ≡ suc f + at.0 = omega (arith, at.1.0) in
    let rest = trees_more ns ts t (suc f) at.0 at.1.1.1 (subst (λ (z : ℕ). IsTreeAt ns z t) e more) in
    (at.0 + 1, (omega (arith, at.1.0), (at.1.1.0, rest)))

-- ---- what `bound_tree` says of each variant
pub bound_tree_leaf : (x : ℤ) → bound_tree (block.Leaf x) ≡ leaf x
unfolding bound_tree
bound_tree_leaf x = ap (fold-Tree BoundTree bound_tree_node) (sym (variants.rolls-Leaf x))
    ∙ fold-roll-Tree BoundTree bound_tree_node _

pub bound_tree_branch : (i c : ℕ) (kids : _)
    → bound_tree (views.Branch i c kids) ≡ branch i c (bound_trees (map bound_tree kids.items))
unfolding bound_tree
bound_tree_branch i c kids = ap (fold-Tree BoundTree bound_tree_node) (sym (variants.rolls-Branch i c kids))
    ∙ fold-roll-Tree BoundTree bound_tree_node _

pub bound_tree_merge : (i a b : ℕ) (kid : _) → bound_tree (views.Merge i a b kid) ≡ merge i a b (bound_tree kid.value)
unfolding bound_tree
bound_tree_merge i a b kid = ap (fold-Tree BoundTree bound_tree_node) (sym (variants.rolls-Merge i a b kid))
    ∙ fold-roll-Tree BoundTree bound_tree_node _
