-- A bound tree fits a front exactly where nothing is wrong at any of its nodes.
use Rattle.std.proofs.Common.{◌≡◌, ℕ, suc, ◌+◌, ℤ, [], ◌∷◌, get_or, arith}
use Rattle.std.specs.Prelude.{◌↔◌}
use Rattle.std.specs.Int.{int_min}
use Rattle.std.proofs.lemmas.List.Elements.{All-append, All-cons, All-from_recursion, All-head, All-tail}
use Rattle.dp_spec.specs.Arithmetic.{Arithmetic}
use Rattle.dp_spec.specs.BoundTree.{BoundTree, BoundTrees, branch, child_count, leaf, merge, more_bound_trees}
use Rattle.dp_spec.specs.BoundTree.{no_bound_trees}
use Rattle.dp_spec.specs.Certificate.{FitsRoot}
use Rattle.dp_spec.specs.Fitting.{FitEachAction, FitsFront, front_bound}
use Rattle.dp_spec.specs.Front.{Front}
use Rattle.dp_spec.specs.Merge.{merged_front}
use Rattle.dp_spec.specs.Model.{Model}
use Rattle.dp_spec.specs.Qualities.{Node, nodes_of, nodes_of_choices}
use Rattle.dp_spec.specs.RightNodes.{AreRightNodes, IsRightNode}
use Rattle.dp_spec.specs.Steps.{front_after_choice, root_front}
use Rattle.dp_base.proofs.AllOfLists.{all_left, all_right}

module _ (A : Arithmetic) (m : Model) (h look : ℕ) where
  -- the bound of a front, or that of its path where it is less
  abbrev least_with : ℤ → Front → ℤ
  least_with cap F = int_min cap (front_bound A m h look F)

  abbrev the_node : ℕ → BoundTree → Front → ℤ → Node
  the_node above T F cap = record { tree = T; above = above; front = F; cap = cap }

  -- a branch that fits has one child for each action that is left
  children_are_counted : (above : ℕ) (ks : BoundTrees) (F : Front) (i c a : ℕ) (cap : ℤ)
      → FitEachAction A m h look above ks F i c a cap
      → a + child_count ks ≡ get_or m.actions i 0
  children_are_counted above no_bound_trees F i c a cap fits = omega arith
  children_are_counted above (more_bound_trees k ks) F i c a cap fits =
      let rest = children_are_counted above ks F i c (suc a) cap fits.1 in omega arith

  mutual
    pub right_nodes : (above : ℕ) (T : BoundTree) (F : Front) (cap : ℤ) → FitsFront A m h look above T F cap
        → AreRightNodes A m h (nodes_of A m h look above T F cap)
    right_nodes above (leaf x) F cap fits = All-from_recursion (IsRightNode A m h)
        (the_node above (leaf x) F cap ∷ []) (fits, tt)
    right_nodes above (branch i c ks) F cap fits =
        let count : child_count ks ≡ get_or m.actions i 0 = let counted = children_are_counted (suc above)
        ks F i c 0 cap fits.2 in omega arith in
        All-cons (IsRightNode A m h) (the_node above (branch i c ks) F cap)
        (nodes_of_choices A m h look (suc above) ks F i c 0 cap)
        ((fits.0, fits.3, fits.1), count) (right_choices (suc above) ks F i c 0 cap fits.2)
    right_nodes above (merge i a b k) F cap fits =
        let G = merged_front F i a b in
        All-cons (IsRightNode A m h) (the_node above (merge i a b k) F cap)
        (nodes_of A m h look (suc above) k G (least_with cap G))
        ((fits.0, fits.7, fits.6, fits.1, fits.2, fits.3), fits.4)
        (right_nodes (suc above) k G (least_with cap G) fits.5)

    right_choices : (above : ℕ) (ks : BoundTrees) (F : Front) (i c a : ℕ) (cap : ℤ)
        → FitEachAction A m h look above ks F i c a cap
        → AreRightNodes A m h (nodes_of_choices A m h look above ks F i c a cap)
    right_choices above no_bound_trees F i c a cap fits = All-from_recursion (IsRightNode A m h) [] tt
    right_choices above (more_bound_trees k ks) F i c a cap fits =
        let G = front_after_choice m F i c a in
        All-append (IsRightNode A m h) (nodes_of A m h look above k G (least_with cap G))
        (nodes_of_choices A m h look above ks F i c (suc a) cap)
        (right_nodes above k G (least_with cap G) fits.0) (right_choices above ks F i c (suc a) cap fits.1)

  mutual
    pub fits_where_right : (above : ℕ) (T : BoundTree) (F : Front) (cap : ℤ)
        → AreRightNodes A m h (nodes_of A m h look above T F cap)
        → FitsFront A m h look above T F cap
    fits_where_right above (leaf x) F cap right = All-head (IsRightNode A m h) (the_node above (leaf x) F cap)
        [] right
    fits_where_right above (branch i c ks) F cap right =
        let here = All-head (IsRightNode A m h) (the_node above (branch i c ks) F cap)
        (nodes_of_choices A m h look (suc above) ks F i c 0 cap) right in
        let below = All-tail (IsRightNode A m h) (the_node above (branch i c ks) F cap)
        (nodes_of_choices A m h look (suc above) ks F i c 0 cap) right in
        let count : 0 + child_count ks ≡ get_or m.actions i 0 = let counted = here.1 in omega arith in
        (here.0.0, here.0.2, fit_where_right (suc above) ks F i c 0 cap count below, here.0.1)
    fits_where_right above (merge i a b k) F cap right =
        let G = merged_front F i a b in
        let here = All-head (IsRightNode A m h) (the_node above (merge i a b k) F cap)
        (nodes_of A m h look (suc above) k G (least_with cap G)) right in
        let below = All-tail (IsRightNode A m h) (the_node above (merge i a b k) F cap)
        (nodes_of A m h look (suc above) k G (least_with cap G)) right in (
          here.0.0,
          here.0.3,
          here.0.4,
          here.0.5,
          here.1,
          fits_where_right (suc above) k G (least_with cap G) below,
          here.0.2,
          here.0.1,
        )

    fit_where_right : (above : ℕ) (ks : BoundTrees) (F : Front) (i c a : ℕ) (cap : ℤ)
        → a + child_count ks ≡ get_or m.actions i 0
        → AreRightNodes A m h (nodes_of_choices A m h look above ks F i c a cap)
        → FitEachAction A m h look above ks F i c a cap
    fit_where_right above no_bound_trees F i c a cap count right = omega arith
    fit_where_right above (more_bound_trees k ks) F i c a cap count right =
        let G = front_after_choice m F i c a in
        let mine = nodes_of A m h look above k G (least_with cap G) in
        let others = nodes_of_choices A m h look above ks F i c (suc a) cap in
        let left : suc a + child_count ks ≡ get_or m.actions i 0 = omega arith in (
          fits_where_right above k G (least_with cap G) (all_left (IsRightNode A m h) mine others right),
          fit_where_right above ks F i c (suc a) cap left (all_right (IsRightNode A m h) mine others right),
        )

  -- from the root
  pub fitting_is_right_nodes : (T : BoundTree) → FitsRoot A m h look T
      ↔ AreRightNodes A m h (nodes_of A m h look 0 T (root_front m) (front_bound A m h look (root_front m)))
  fitting_is_right_nodes T = (right_nodes 0 T (root_front m) _, fits_where_right 0 T (root_front m) _)
