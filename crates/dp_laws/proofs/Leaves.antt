-- the greatest leaf of a bound tree
use Rattle.std.proofs.Common.{ℕ, zero, suc, ◌*◌, ◌<◌, ◌≤◌, ℤ, ◌≤ℤ◌, List, get_or, refl, arith}
use Rattle.std.specs.Int.{int_max}
use Rattle.dp_laws.proofs.WellFormedSteps.{after_choice_is_front, merged_is_front}
use Rattle.dp_base.proofs.Order.{le_max_left, le_max_right, max_le}
use Rattle.dp_base.proofs.Ring.{zle_trans, zle_of}
use Rattle.dp_spec.specs.Arithmetic.{Arithmetic}
use Rattle.dp_spec.specs.BoundTree.{AllLeavesAtMost, BoundTree, BoundTrees, LeavesAtMost, branch, greatest_leaf}
use Rattle.dp_spec.specs.BoundTree.{greatest_leaf_of, leaf, merge, more_bound_trees, no_bound_trees}
use Rattle.dp_spec.specs.Fitting.{FitEachAction, FitsFront}
use Rattle.dp_spec.specs.Front.{AgentFront, Front}
use Rattle.dp_spec.specs.JointNumbers.{product}
use Rattle.dp_spec.specs.Merge.{merged_front}
use Rattle.dp_spec.specs.Model.{IsModel, Model, joint_actions}
use Rattle.dp_spec.specs.WellFormed.{AreAgentFronts, IsFront}
use Rattle.dp_spec.specs.WellFormed.AreAgentFronts.{and_agent, no_agents}
use Rattle.dp_spec.specs.Steps.{IsUnassigned, front_after_choice}

mutual
  -- what is at least each leaf may grow
  leaves_below : (u w : ℤ) (T : BoundTree) → u ≤ℤ w → LeavesAtMost u T → LeavesAtMost w T
  leaves_below u w (leaf x) le h = zle_trans _ _ _ h le
  leaves_below u w (branch i c Ts) le h = all_leaves_below u w Ts le h
  leaves_below u w (merge i a b T) le h = leaves_below u w T le h

  -- the same for each tree of a list
  all_leaves_below : (u w : ℤ) (Ts : BoundTrees) → u ≤ℤ w → AllLeavesAtMost u Ts → AllLeavesAtMost w Ts
  all_leaves_below u w no_bound_trees le h = tt
  all_leaves_below u w (more_bound_trees T Ts) le h = (
    leaves_below u w T le h.0,
    all_leaves_below u w Ts le h.1,
  )

mutual
  -- the greatest leaf is at least each leaf
  pub greatest_leaf-at_most : (T : BoundTree) → LeavesAtMost (greatest_leaf T) T
  greatest_leaf-at_most (leaf x) = zle_of _ _ refl
  greatest_leaf-at_most (branch i c Ts) = greatest_leaf_of-at_most Ts
  greatest_leaf-at_most (merge i a b T) = greatest_leaf-at_most T

  -- the same for a list
  greatest_leaf_of-at_most : (Ts : BoundTrees) → AllLeavesAtMost (greatest_leaf_of Ts) Ts
  greatest_leaf_of-at_most no_bound_trees = tt
  greatest_leaf_of-at_most (more_bound_trees T no_bound_trees) = (greatest_leaf-at_most T, tt)
  greatest_leaf_of-at_most (more_bound_trees T (more_bound_trees T' Ts)) =
      let here = greatest_leaf T in
      let rest = greatest_leaf_of (more_bound_trees T' Ts) in (
        leaves_below here (int_max here rest) T (le_max_left here rest) (greatest_leaf-at_most T),
        all_leaves_below rest (int_max here rest) (more_bound_trees T' Ts) (le_max_right here rest)
            (greatest_leaf_of-at_most (more_bound_trees T' Ts)),
      )

-- ---- a tree that fits a front has a leaf below each branch

-- the factors of a product that is not 0
factor_not_zero : (a b : ℕ) → 0 < a * b → (0 < a) × (0 < b)
factor_not_zero zero b h = absurd (omega arith)
factor_not_zero (suc a) zero h = absurd (omega arith)
factor_not_zero (suc a) (suc b) h = (omega arith, omega arith)

-- each agent of a front has an action
some_action_of : {f : ℕ} {bs ns : List ℕ} {ds : List AgentFront} → AreAgentFronts f bs ns ds → (i c : ℕ)
    → IsUnassigned i c ds → 0 < product bs → 0 < get_or bs i 0
some_action_of no_agents i c free h = absurd free
some_action_of (and_agent {b = b} {bs = bs} front fronts) zero c free h = (factor_not_zero b (product bs) h).0
some_action_of (and_agent {b = b} {bs = bs} front fronts) (suc i) c free h = some_action_of fronts i c free
    (factor_not_zero b (product bs) h).1

-- the agent of an unassigned class has an action
pub some_action : (m : Model) (h : ℕ) (F : Front) (i c : ℕ) → IsModel m → IsFront m h F
    → IsUnassigned i c F.agents
    → 0 < get_or m.actions i 0
unfolding joint_actions
some_action m h F i c ok front free = some_action_of front.agents i c free ok.sizes.some_action

module _ (A : Arithmetic) (m : Model) (ok : IsModel m) (h look : ℕ) (u : ℤ) where
  -- the trees of a branch are as many as the actions that are left
  pub actions_left : (above : ℕ) (Ts : BoundTrees) (F : Front) (i c a : ℕ) (least : ℤ)
      → FitEachAction A m h look above Ts F i c a least
      → a ≤ get_or m.actions i 0
  actions_left above no_bound_trees F i c a least fits = omega arith
  actions_left above (more_bound_trees T Ts) F i c a least fits = let more = actions_left above Ts F i c (suc a)
      least fits.1 in omega arith

  mutual
    -- of a tree that fits a front the greatest leaf is at most what each leaf is at most
    pub greatest_leaf_below : (above : ℕ) (T : BoundTree) (F : Front) (least : ℤ) → IsFront m h F
        → FitsFront A m h look above T F least
        → LeavesAtMost u T → greatest_leaf T ≤ℤ u
    greatest_leaf_below above (leaf x) F least front fits below = below
    greatest_leaf_below above (branch i c Ts) F least front fits below = greatest_leaf_of_below (suc above)
        Ts F i c 0 least front fits.0 fits.1 (some_action m h F i c ok front fits.1) fits.2 below
    greatest_leaf_below above (merge i a b T) F least front fits below = greatest_leaf_below (suc above) T
        (merged_front F i a b) _ (merged_is_front m h F i a b front fits.0 fits.1 fits.2 fits.3) fits.5 below

    -- the same for the trees of the actions from a on
    greatest_leaf_of_below : (above : ℕ) (Ts : BoundTrees) (F : Front) (i c a : ℕ) (least : ℤ) → IsFront m h F
        → F.stage < h
        → IsUnassigned i c F.agents → a < get_or m.actions i 0 → FitEachAction A m h look above Ts F i c a least
        → AllLeavesAtMost u Ts → greatest_leaf_of Ts ≤ℤ u
    greatest_leaf_of_below above no_bound_trees F i c a least front lt free inside fits below = absurd
        (omega arith)
    greatest_leaf_of_below above (more_bound_trees T no_bound_trees)
        F i c a least front lt free inside fits below = greatest_leaf_below above T
        (front_after_choice m F i c a)
        _ (after_choice_is_front m h F i c a front lt free inside) fits.0 below.0
    greatest_leaf_of_below above (more_bound_trees T (more_bound_trees T' Ts))
        F i c a least front lt free inside fits below =
        max_le _ _ u
        (greatest_leaf_below above T (front_after_choice m F i c a) _
        (after_choice_is_front m h F i c a front lt free inside) fits.0 below.0)
        (greatest_leaf_of_below above (more_bound_trees T' Ts) F i c (suc a) least front lt free
        (actions_left above Ts F i c (suc (suc a)) least fits.1.1) fits.1 below.1)
