-- Each branch of a tree that fits has from 1 to 256 children, one for each action of its agent.
use Rattle.std.proofs.Common.{◌≡◌, ℕ, zero, suc, ◌+◌, ◌*◌, ◌<◌, ◌≤◌, ℤ, pos, List, [], ◌∷◌, get_or, arith}
use Rattle.std.proofs.Math.Nat.{le-mul_of_pos_right}
use Rattle.dp_laws.proofs.Leaves.{actions_left, some_action}
use Rattle.dp_laws.proofs.RootFront.{root_is_front}
use Rattle.dp_laws.proofs.WellFormedSteps.{after_choice_is_front, merged_is_front}
use Rattle.dp_spec.specs.Arithmetic.{Arithmetic}
use Rattle.dp_spec.specs.BoundTree.{BoundTree, BoundTrees, HasSmallBranches, HaveSmallBranches, branch, child_count}
use Rattle.dp_spec.specs.BoundTree.{inner_count, inner_counts, leaf, merge, more_bound_trees, no_bound_trees}
use Rattle.dp_spec.specs.BoundTree.{node_count, node_counts}
use Rattle.dp_spec.specs.Certificate.{Certificate, FitsRoot, IsCertificateOf, IsValid, arithmetic_for}
use Rattle.dp_laws.proofs.TreeDepth.{valid_depth}
use Rattle.dp_spec.specs.Fitting.{FitEachAction, FitsFront}
use Rattle.dp_spec.specs.Front.{Front}
use Rattle.dp_spec.specs.JointNumbers.{product}
use Rattle.dp_spec.specs.Merge.{merged_front}
use Rattle.dp_spec.specs.Model.{IsModel, Model, joint_actions}
use Rattle.dp_spec.specs.Steps.{IsUnassigned, front_after_choice, root_front}
use Rattle.dp_spec.specs.WellFormed.{IsFront}
use Rattle.dp_spec.proofs.JointNumberLaws.{positive_left, positive_right}

-- no number of a product above 0 is more than the product
pub number_within : (ns : List ℕ) (i : ℕ) → 0 < product ns → get_or ns i 0 ≤ product ns
number_within [] i some = omega arith
number_within (n ∷ ns) zero some = omega (arith, le-mul_of_pos_right n (positive_right n (product ns) 0 some))
number_within (n ∷ ns) (suc i) some =
    let rest = number_within ns i (positive_right n (product ns) 0 some) in
    omega (arith, le-mul_of_pos_right (product ns) (positive_left n (product ns) 0 some))

module _ (A : Arithmetic) (m : Model) (is : IsModel m) (h look : ℕ) where
  -- as many children as actions from a on
  child_count_is : (above : ℕ) (ks : BoundTrees) (F : Front) (i c a : ℕ) (least : ℤ)
      → FitEachAction A m h look above ks F i c a least
      → a + child_count ks ≡ get_or m.actions i 0
  child_count_is above no_bound_trees F i c a least fits = omega arith
  child_count_is above (more_bound_trees k ks) F i c a least fits = let rest = child_count_is above ks F i c
      (suc a) least fits.1 in omega arith

  few_actions : (i : ℕ) → get_or m.actions i 0 ≤ 256
  unfolding joint_actions
  few_actions i = let within = number_within m.actions i is.sizes.some_action in
      let limit = is.sizes.joint_actions_limit in omega arith

  mutual
    small_branches : (above : ℕ) (T : BoundTree) (F : Front) (least : ℤ) → IsFront m h F
        → FitsFront A m h look above T F least → HasSmallBranches T
    small_branches above (leaf x) F least front fits = tt
    small_branches above (branch i c ks) F least front fits =
        let count = child_count_is (suc above) ks F i c 0 least fits.2 in
        let some = some_action m h F i c is front fits.1 in
        let few = few_actions i in
        (omega arith, omega arith, small_branches_of (suc above) ks F i c 0 least front fits.0 fits.1 fits.2)
    small_branches above (merge i a b k) F least front fits =
        small_branches (suc above) k (merged_front F i a b) _
        (merged_is_front m h F i a b front fits.0 fits.1 fits.2 fits.3) fits.5

    small_branches_of : (above : ℕ) (ks : BoundTrees) (F : Front) (i c a : ℕ) (least : ℤ) → IsFront m h F
        → F.stage < h → IsUnassigned i c F.agents
        → FitEachAction A m h look above ks F i c a least → HaveSmallBranches ks
    small_branches_of above no_bound_trees F i c a least front lt free fits = tt
    small_branches_of above (more_bound_trees k ks) F i c a least front lt free fits =
        let left = actions_left A m is h look (pos 0) above ks F i c (suc a) least fits.1 in (
          small_branches above k (front_after_choice m F i c a) _
              (after_choice_is_front m h F i c a front lt free (omega arith)) fits.0,
          small_branches_of above ks F i c (suc a) least front lt free fits.1,
        )

-- each branch of a tree that fits the root front has from 1 to 256 children
pub fitting_branches : (A : Arithmetic) (m : Model) (h look : ℕ) (T : BoundTree) → IsModel m
    → FitsRoot A m h look T → HasSmallBranches T
fitting_branches A m h look T is fits = small_branches A m is h look 0 T (root_front m) _
    (root_is_front m h is) fits

-- ---- how many nodes a tree has

mutual
  nodes_limit : (T : BoundTree) → HasSmallBranches T → node_count T ≤ 1 + 256 * inner_count T
  nodes_limit (leaf x) small = omega arith
  nodes_limit (branch i c ks) small = let rest = nodes_limit_of ks small.2 in omega (arith, small.1, rest)
  nodes_limit (merge i a b k) small = let rest = nodes_limit k small in omega arith

  nodes_limit_of : (ks : BoundTrees) → HaveSmallBranches ks → node_counts ks
      ≤ child_count ks + 256 * inner_counts ks
  nodes_limit_of no_bound_trees small = omega arith
  nodes_limit_of (more_bound_trees k ks) small = omega (arith, nodes_limit k small.0, nodes_limit_of ks small.1)

-- a valid certificate with a look in its range and at most a million inner nodes is all that is asked of a
-- certificate
pub valid_fits : (m : Model) (c : Certificate) → IsModel m → IsValid m c → 1 ≤ c.look → c.look ≤ 16
    → c.inner ≤ 1000000
    → IsCertificateOf m c
valid_fits m c is v from to few =
    let small = fitting_branches (arithmetic_for m c) m c.horizon c.look c.tree is v.tree in
    let nodes = nodes_limit c.tree small in
    let inner = v.inner in
    record {
      within = v.within;
      look = (from, to);
      policy = v.policy;
      nodes = omega arith;
      depth = valid_depth m c v;
      children = small;
    }
