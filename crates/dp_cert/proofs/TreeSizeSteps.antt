-- The sizes of a branch, child after child.
use Rattle.std.proofs.Common.{◌≡◌, ℕ, zero, suc, ◌+◌, ◌-◌, ◌<◌, ◌≤◌, List, [], ◌∷◌, length, drop, get_or, map, max}
use Rattle.std.proofs.Common.{refl, sym, ap, arith}
use Rattle.std.specs.Prelude.{◌↔◌}
use Rattle.dp_spec.specs.BoundTree.{BoundTree, leaf, branch, merge, node_count, node_counts, depth_of, greatest_depth}
use Rattle.dp_spec.specs.BoundTree.{HaveSmallBranches, child_count}
use Rattle.dp_tree.specs.TreeValue.{bound_trees}
use Rattle.dp_cert.specs.TreeSizes.{IsSmallTree}

-- the trees are within the limits of the children of a node, behind so many nodes
pub record AreSmall (deepest most count : ℕ) (ts : List BoundTree) : Type 0 where
  pub depth : greatest_depth (bound_trees ts) + 1 ≤ deepest
  pub nodes : count + node_counts (bound_trees ts) ≤ most
  pub children : HaveSmallBranches (bound_trees ts)

-- the children from one on are within the limits, behind so many nodes, exactly where all are
pub record AreSmallFrom (deepest most count : ℕ) (all left : List BoundTree) : Type 0 where
  pub same : AreSmall deepest most 1 all ↔ AreSmall deepest most count left
  pub counted : count + node_counts (bound_trees left) ≡ 1 + node_counts (bound_trees all)
  pub within : count ≤ most
  pub deep : 1 ≤ deepest

pub some_node : (T : BoundTree) → 0 < node_count T
some_node (leaf x) = omega arith
some_node (branch i c ks) = omega arith
some_node (merge i a b k) = omega arith

pub child_count_is : (ts : List BoundTree) → child_count (bound_trees ts) ≡ length ts
child_count_is [] = refl
child_count_is (t ∷ ts) = let e = child_count_is ts in omega arith

-- no tree has no node
pub no_room : (d : ℕ) (T : BoundTree) → IsSmallTree d 0 T → ⊥
no_room d T small = omega (arith, some_node T, small.nodes)

max_left : (a b : ℕ) → a ≤ max a b
max_left a b = grind arith

max_right : (a b : ℕ) → b ≤ max a b
max_right a b = grind arith

max_least : (a b c : ℕ) → a ≤ c → b ≤ c → max a b ≤ c
max_least a b c p q = grind arith

module _ (d most : ℕ) (i c : ℕ) (ts : List BoundTree) where
  -- a branch is small where its children are
  pub branch_small : AreSmall d most 1 ts → 1 ≤ length ts → length ts ≤ 256
      → IsSmallTree d most (branch i c (bound_trees ts))
  branch_small are some few = record {
    depth = let e = are.depth in omega arith;
    nodes = let e = are.nodes in omega arith;
    children = (
      (let e = child_count_is ts in omega arith),
      (let e = child_count_is ts in omega arith),
      are.children,
    );
  }

  pub small_branch : IsSmallTree d most (branch i c (bound_trees ts)) → AreSmall d most 1 ts
  small_branch is = record {
    depth = let e = is.depth in omega arith;
    nodes = let e = is.nodes in omega arith;
    children = is.children.2;
  }

  pub branch_children : IsSmallTree d most (branch i c (bound_trees ts)) → (1 ≤ d) × (1 ≤ length ts)
      × (length ts ≤ 256)
  branch_children is =
      let e = child_count_is ts in (
        (let f = is.depth in omega arith),
        (let f = is.children.0 in omega arith),
        (let f = is.children.1 in omega arith),
      )

-- ---- the loop

pub small_start : (d most : ℕ) (ts : List BoundTree) → 1 ≤ most → 1 ≤ d → AreSmallFrom d most 1 ts ts
small_start d most ts le deep = record { same = (λ a. a, λ a. a); counted = refl; within = le; deep = deep }

kid_of : (d most count : ℕ) (t : BoundTree) (left : List BoundTree) → 1 ≤ d → AreSmall d most count (t ∷ left)
    → IsSmallTree (d - 1) (most - count) t
kid_of d most count t left deep are = record {
  depth = let e = are.depth in let f = max_left (depth_of t) (greatest_depth (bound_trees left)) in omega arith;
  nodes = let e = are.nodes in omega arith;
  children = are.children.0;
}

pub small_further : (d most count n : ℕ) (all : List BoundTree) (t : BoundTree) (left : List BoundTree)
    → AreSmallFrom d most count all (t ∷ left)
    → IsSmallTree (d - 1) (most - count) t → n ≡ node_count t → AreSmallFrom d most (count + n) all left
small_further d most count n all t left from is e = record {
  same = (λ a. fewer (from.same.0 a), λ a. from.same.1 (more a));
  counted = let f = from.counted in omega (arith, e, f);
  within = let f = is.nodes in let g = from.within in omega (arith, e, f, g);
  deep = from.deep;
}
  where
    fewer : AreSmall d most count (t ∷ left) → AreSmall d most (count + n) left
    fewer a = record {
      depth = let f = a.depth in let g = max_right (depth_of t) (greatest_depth (bound_trees left)) in
          omega arith;
      nodes = let f = a.nodes in omega (arith, e, f);
      children = a.children.1;
    }

    more : AreSmall d most (count + n) left → AreSmall d most count (t ∷ left)
    more a =
        let deep = from.deep in
        let f : depth_of t ≤ d - 1 = is.depth in
        let g : greatest_depth (bound_trees left) ≤ d - 1 = let h = a.depth in omega arith in
        let both = max_least (depth_of t) (greatest_depth (bound_trees left)) (d - 1) f g in
        record {
          depth = omega (arith, deep, both);
          nodes = let h = a.nodes in omega (arith, e, h);
          children = (is.children, a.children);
        }

pub small_stops : (d most count : ℕ) (all : List BoundTree) (t : BoundTree) (left : List BoundTree)
    → AreSmallFrom d most count all (t ∷ left)
    → (IsSmallTree (d - 1) (most - count) t → ⊥) → AreSmall d most 1 all → ⊥
small_stops d most count all t left from none a = none (kid_of d most count t left from.deep (from.same.0 a))

pub small_end : (d most count : ℕ) (all : List BoundTree) → AreSmallFrom d most count all []
    → AreSmall d most 1 all × (count ≡ 1 + node_counts (bound_trees all))
small_end d most count all from =
    let deep = from.deep in let within = from.within in (
      from.same.1 (record { depth = omega arith; nodes = omega arith; children = tt }),
      (let f = from.counted in omega arith),
    )

-- ---- a merge

pub merge_small : (d most i a b : ℕ) (t : BoundTree) → 1 ≤ d → 1 ≤ most → IsSmallTree (d - 1) (most - 1) t
    → IsSmallTree d most (merge i a b t)
merge_small d most i a b t deep some is = record {
  depth = let e = is.depth in omega arith;
  nodes = let e = is.nodes in omega arith;
  children = is.children;
}

pub small_merge : (d most i a b : ℕ) (t : BoundTree) → IsSmallTree d most (merge i a b t) → (1 ≤ d)
    × IsSmallTree (d - 1) (most - 1) t
small_merge d most i a b t is = (
  (let e = is.depth in omega arith),
  record {
    depth = let e = is.depth in omega arith;
    nodes = let e = is.nodes in omega arith;
    children = is.children;
  },
)

-- ---- lists

-- the items from one on are that one and those behind it
pub mapped_drop : {X Y : Type 0} (f : X → Y) (xs : List X) (i : ℕ) (x : X) → i < length xs → x ≡ get_or xs i x
    → map f (drop i xs) ≡ f x ∷ map f (drop (suc i) xs)
mapped_drop f [] i x lt e = absurd (omega arith)
mapped_drop f (y ∷ xs) zero x lt e = let same : x ≡ y = e in ap (λ z. f z ∷ map f xs) (sym same)
mapped_drop f (y ∷ xs) (suc i) x lt e = mapped_drop f xs i x (omega arith) e

pub mapped_length : {X Y : Type 0} (f : X → Y) (xs : List X) → length (map f xs) ≡ length xs
mapped_length f [] = refl
mapped_length f (x ∷ xs) = ap suc (mapped_length f xs)

-- nothing is left at the end
pub mapped_end : {X Y : Type 0} (f : X → Y) (xs : List X) (i : ℕ) → length xs ≤ i → map f (drop i xs) ≡ []
mapped_end f [] zero le = refl
mapped_end f [] (suc i) le = refl
mapped_end f (x ∷ xs) zero le = absurd (omega arith)
mapped_end f (x ∷ xs) (suc i) le = mapped_end f xs i (omega arith)
