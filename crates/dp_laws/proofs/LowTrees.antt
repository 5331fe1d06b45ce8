-- Trees whose leaves are low, by their nodes: a leaf is low where its front's bound is, and in exact arithmetic a
-- full one where the value of its front's policy is.
use Rattle.std.proofs.Common.{◌≡◌, ℕ, suc, ◌<◌, ◌≤◌, inl, inr, ℤ, ◌≤ℤ◌, get_or, refl, sym, subst, arith, All, []}
use Rattle.std.specs.Int.{int_min}
use Rattle.std.proofs.lemmas.Bool.{cases_lt}
use Rattle.std.proofs.lemmas.List.Elements.{All-head, All-tail}
use Rattle.dp_base.proofs.AllOfLists.{all_left, all_right}
use Rattle.dp_base.proofs.Order.{min_le_right}
use Rattle.dp_base.proofs.Ring.{zle_of, zle_trans}
use Rattle.dp_laws.proofs.FullBounds.{full_bound_is_value}
use Rattle.dp_laws.proofs.NodeFronts.{nodes_have_room}
use Rattle.dp_laws.specs.GrowthLaws.{root_nodes}
use Rattle.dp_spec.specs.Arithmetic.{Arithmetic, exact}
use Rattle.dp_spec.specs.BoundTree.{AllLeavesAtMost, BoundTree, BoundTrees, LeavesAtMost, branch, leaf, merge}
use Rattle.dp_spec.specs.BoundTree.{more_bound_trees, no_bound_trees}
use Rattle.dp_spec.specs.Certificate.{FitsRoot}
use Rattle.dp_spec.specs.Fitting.{FitEachAction, FitsFront, front_bound}
use Rattle.dp_spec.specs.Front.{Front}
use Rattle.dp_spec.specs.FullPolicy.{full_policy}
use Rattle.dp_spec.specs.Merge.{merged_front}
use Rattle.dp_spec.specs.Model.{IsModel, Model}
use Rattle.dp_spec.specs.Qualities.{IfLeaf, Node, nodes_of, nodes_of_choices}
use Rattle.dp_spec.specs.Steps.{front_after_choice, root_front}
use Rattle.dp_spec.specs.Value.{policy_value}
use Rattle.dp_spec.specs.WellFormed.{IsFront}

-- ---- the leaves of a tree by its nodes

module _ (A : Arithmetic) (m : Model) (h look : ℕ) (u : ℤ) where
  -- a leaf that states no more than its front's bound states no more than u
  abbrev pub IsLow : Node → Type 0
  IsLow n = IfLeaf n.tree (λ x. x ≤ℤ front_bound A m h look n.front → x ≤ℤ u)

  mutual
    pub low_leaves : (above : ℕ) (T : BoundTree) (F : Front) (least : ℤ) → FitsFront A m h look above T F least
        → least ≤ℤ front_bound A m h look F → All IsLow (nodes_of A m h look above T F least) → LeavesAtMost u T
    low_leaves above (leaf x) F least fits le low =
        All-head IsLow (record { tree = leaf x; above = above; front = F; cap = least }) [] low
        (subst (λ (z : ℤ). z ≤ℤ front_bound A m h look F) (sym fits) le)
    low_leaves above (branch i c ks) F least fits le low =
        low_choices (suc above) ks F i c 0 least fits.2 (All-tail IsLow
        (record { tree = branch i c ks; above = above; front = F; cap = least })
        (nodes_of_choices A m h look (suc above) ks F i c 0 least) low)
    low_leaves above (merge i a b k) F least fits le low =
        let G = merged_front F i a b in
        low_leaves (suc above) k G (int_min least (front_bound A m h look G)) fits.5
        (min_le_right least (front_bound A m h look G))
        (All-tail IsLow (record { tree = merge i a b k; above = above; front = F; cap = least })
        (nodes_of A m h look (suc above) k G (int_min least (front_bound A m h look G))) low)

    low_choices : (above : ℕ) (ks : BoundTrees) (F : Front) (i c a : ℕ) (least : ℤ)
        → FitEachAction A m h look above ks F i c a least
        → All IsLow (nodes_of_choices A m h look above ks F i c a least) → AllLeavesAtMost u ks
    low_choices above no_bound_trees F i c a least fits low = tt
    low_choices above (more_bound_trees k ks) F i c a least fits low =
        let G = front_after_choice m F i c a in
        let mine = nodes_of A m h look above k G (int_min least (front_bound A m h look G)) in
        let others = nodes_of_choices A m h look above ks F i c (suc a) least in (
          low_leaves above k G (int_min least (front_bound A m h look G)) fits.0
              (min_le_right least (front_bound A m h look G)) (all_left IsLow mine others low),
          low_choices above ks F i c (suc a) least fits.1 (all_right IsLow mine others low),
        )

-- ---- in exact arithmetic

-- a leaf of a front's bound is low where the leaf is not full, or the value of the front's policy is low
low_leaf : (m : Model) → IsModel m → (h look : ℕ) (lower : ℤ) (F : Front) (T : BoundTree) → IsFront m h F
    → IfLeaf T (λ x. (F.stage < h → x ≤ℤ lower) × (h ≤ F.stage → policy_value m h (full_policy m F) ≤ℤ lower))
    → IfLeaf T (λ x. x ≤ℤ front_bound (exact m.scales) m h look F → x ≤ℤ lower)
low_leaf m is h look lower F (leaf x) front given = λ le.
    elim (cases_lt F.stage h) [
      | inl early ↦ given.0 early
      | inr late ↦
          let limit = front.stage_limit in
          let full : F.stage ≡ h = omega arith in
          zle_trans _ _ _ le (zle_trans _ _ _ (zle_of _ _ (full_bound_is_value m h look F is front full))
          (given.1 late))
    ]
low_leaf m is h look lower F (branch i c Ts) front given = tt
low_leaf m is h look lower F (merge i a b T) front given = tt

-- of the whole tree
pub low_trees_are_closed : (m : Model) → IsModel m → (h look : ℕ) (lower : ℤ) (T : BoundTree)
    → FitsRoot (exact m.scales) m h look T
    → All (λ n. IfLeaf n.tree (λ x. (n.front.stage < h → x ≤ℤ lower)
    × (h ≤ n.front.stage → policy_value m h (full_policy m n.front) ≤ℤ lower)))
    (root_nodes (exact m.scales) m h look T) → LeavesAtMost lower T
low_trees_are_closed m is h look lower T fits low =
    let A = exact m.scales in
    let fronts = nodes_have_room A m h look T is fits in
    low_leaves A m h look lower 0 T (root_front m) _ fits (zle_of _ _ refl)
    (λ i n lt. let x = get_or (root_nodes A m h look T) i n in
    low_leaf m is h look lower x.front x.tree (fronts i n lt).0 (low i n lt))
