-- A bound tree that fits a front bounds every joint policy that keeps it.
use Rattle.std.proofs.Common.{◌≡◌, inl, inr, ℕ, suc, ◌+◌, ◌-◌, ◌<◌, ◌≤◌, Bool, ℤ, pos, ◌*ℤ◌, ◌≤ℤ◌, List, get_or, refl}
use Rattle.std.proofs.Common.{sym, subst, arith}
use Rattle.std.specs.Int.{int_min}
use Rattle.dp_laws.proofs.EnclosedQuantities.{bound_enclosed}
use Rattle.dp_laws.proofs.KeptBound.{keeper_under_bound}
use Rattle.dp_laws.proofs.KeptSteps.{keeps_some_next}
use Rattle.dp_laws.proofs.LosslessMerging.{merging_loses_nothing}
use Rattle.dp_laws.proofs.Modes.{model_arithmetic_sound}
use Rattle.dp_base.proofs.Order.{equal_or_less, mul_le_right}
use Rattle.dp_laws.proofs.OutwardArithmetic.{IsAbove, smaller_above}
use Rattle.dp_base.proofs.Ring.{zle_trans, zle_of}
use Rattle.dp_laws.proofs.RootFront.{policy_keeps_root, root_is_front}
use Rattle.dp_laws.proofs.WellFormedSteps.{after_choice_is_front, merged_is_front}
use Rattle.dp_spec.specs.Arithmetic.{Arithmetic, arithmetic}
use Rattle.dp_spec.specs.Bound.{bound_of}
use Rattle.dp_spec.specs.BoundTree.{AllLeavesAtMost, BoundTree, BoundTrees, LeavesAtMost, branch, leaf, merge}
use Rattle.dp_spec.specs.BoundTree.{more_bound_trees, no_bound_trees}
use Rattle.dp_spec.specs.Certificate.{FitsRoot}
use Rattle.dp_spec.specs.Claims.{BoundsEveryPolicy}
use Rattle.dp_spec.specs.Enclosure.{Enclosure, IsSound, enclosure}
use Rattle.dp_spec.specs.Fitting.{FitEachAction, FitsFront, front_bound}
use Rattle.dp_spec.specs.Front.{Front}
use Rattle.dp_spec.specs.Keeping.{KeepsFront}
use Rattle.dp_spec.specs.Merge.{merged_front}
use Rattle.dp_spec.specs.Model.{IsModel, Model, value_scale}
use Rattle.dp_spec.specs.PolicyTree.{IsPolicyOf, PolicyTree}
use Rattle.dp_spec.specs.Quantities.{bound_in}
use Rattle.dp_spec.specs.Steps.{IsUnassigned, front_after_choice, root_front}
use Rattle.dp_spec.specs.Value.{policy_value}
use Rattle.dp_spec.specs.WellFormed.{IsFront}

-- ---- in a sound arithmetic
module _ (A : Arithmetic) (R : Enclosure) (m : Model) (is : IsModel m) (ok : IsSound m.scales A R)
    (h look : ℕ) where
  -- u in the unit is at least the value v
  abbrev Bounds : ℤ → ℤ → Type 0
  Bounds u v = IsAbove (value_scale m h) (R.unit (value_scale m h)) v u

  -- no joint policy that keeps a front is worth more than its computed bound
  pub front_bound_bounds : (F : Front) (qs : List PolicyTree) → IsFront m h F → IsPolicyOf m h qs
      → KeepsFront m F qs
      → Bounds (front_bound A m h look F) (policy_value m h qs)
  unfolding front_bound
  front_bound_bounds F qs front policy keeps =
      let r = h - F.stage in
      let limit = front.stage_limit in
      let e : F.stage + r ≡ h = omega arith in
      let computed : IsAbove (value_scale m (F.stage + r)) (R.unit (value_scale m (F.stage + r)))
      (bound_of m r F look) (bound_in A m r F look) = ok.reads _ _ _ (bound_enclosed m A R ok is r F look) in
      zle_trans _ _ _ (mul_le_right (R.unit (value_scale m h)) _ _
      (keeper_under_bound m is h r look F qs front e policy keeps))
      (subst (λ (n : ℕ). IsAbove (value_scale m n) (R.unit (value_scale m n)) (bound_of m r F look)
      (bound_in A m r F look)) e computed)

  -- what is at most the value is at most the smaller of two bounds
  smaller_bounds : (v w a b : ℤ) → v ≤ℤ w → Bounds a v → Bounds b w → Bounds (int_min a b) v
  smaller_bounds v w a b le p q = smaller_above (value_scale m h) (R.unit (value_scale m h)) v w a b le p q

  mutual
    -- A number v that is at most the value of a joint policy that keeps the front, and at most the least bound on the
    -- path, is at most each number u that no leaf of a fitting tree passes.
    fitting_tree_bounds : (v u : ℤ) (above : ℕ) (T : BoundTree) (F : Front) (least : ℤ) (qs : List PolicyTree) →
        IsFront m h F → FitsFront A m h look above T F least → IsPolicyOf m h qs → KeepsFront m F qs
        → v ≤ℤ policy_value m h qs → Bounds least v → LeavesAtMost u T → Bounds u v
    fitting_tree_bounds v u above (leaf x) F least qs front fits policy keeps best bounded below =
        zle_trans _ _ _
        (subst (λ (z : ℤ). Bounds z v) (sym fits) bounded) (mul_le_right (value_scale m h) _ _ below)
    fitting_tree_bounds v u above (branch i c Ts) F least qs front fits policy keeps best bounded below =
        let next = keeps_some_next m h F qs i c front fits.0 policy keeps fits.1 in
        fitting_trees_bound v u (suc above) Ts F i c 0 next.0 least qs front fits.0 fits.1 fits.2 policy next.1
        next.2 best bounded (omega arith) below
    fitting_tree_bounds v u above (merge i a b T) F least qs front fits policy keeps best bounded below =
        let G = merged_front F i a b in
        let merged = merged_is_front m h F i a b front fits.0 fits.1 fits.2 fits.3 in
        let new = merging_loses_nothing m h F i a b front fits.0 fits.1 fits.2 fits.3 fits.4 qs policy keeps in
        let better : v ≤ℤ policy_value m h new.0 = zle_trans _ _ _ best new.3 in
        fitting_tree_bounds v u (suc above) T G _ new.0 merged fits.5 new.1 new.2 better
        (smaller_bounds v (policy_value m h new.0) least (front_bound A m h look G) better bounded
        (front_bound_bounds G new.0 merged new.1 new.2)) below

    -- the same of the tree of action a, among the trees of the actions from k on
    fitting_trees_bound : (v u : ℤ) (above : ℕ) (Ts : BoundTrees) (F : Front) (i c k a : ℕ) (least : ℤ)
        (qs : List PolicyTree) →
        IsFront m h F → F.stage < h → IsUnassigned i c F.agents
        → FitEachAction A m h look above Ts F i c k least
        → IsPolicyOf m h qs → a < get_or m.actions i 0 → KeepsFront m (front_after_choice m F i c a) qs →
        v ≤ℤ policy_value m h qs → Bounds least v → k ≤ a → AllLeavesAtMost u Ts → Bounds u v
    fitting_trees_bound v u above no_bound_trees F i c k a least qs front lt free fits policy inside keeps best
        bounded from below = absurd (omega arith)
    fitting_trees_bound v u above (more_bound_trees T Ts) F i c k a least qs front lt free fits policy inside
        keeps
        best bounded from below =
        elim (equal_or_less k a from) [
          | inl e ↦
              let G = front_after_choice m F i c k in
              let next = after_choice_is_front m h F i c k front lt free (omega arith) in
              let kept = subst (λ (z : ℕ). KeepsFront m (front_after_choice m F i c z) qs) (sym e) keeps in
              fitting_tree_bounds v u above T G _ qs next fits.0 policy kept best
              (smaller_bounds v (policy_value m h qs) least (front_bound A m h look G) best bounded
              (front_bound_bounds G qs next policy kept)) below.0
          | inr more ↦ fitting_trees_bound v u above Ts F i c (suc k)
              a least qs front lt free fits.1 policy inside keeps best bounded more below.1
        ]

  -- a tree that fits the root front bounds every joint policy
  pub fitting_root_bounds : (T : BoundTree) (u : ℤ) → FitsRoot A m h look T → LeavesAtMost u T
      → BoundsEveryPolicy m h (pos (R.unit (value_scale m h))) u
  fitting_root_bounds T u fits below qs policy =
      let front = root_is_front m h is in
      let keeps = policy_keeps_root m h qs policy in
      fitting_tree_bounds (policy_value m h qs) u 0 T (root_front m) _ qs front fits policy keeps
      (zle_of _ _ refl)
      (front_bound_bounds (root_front m) qs front policy keeps) below

-- in the arithmetic of a mode no joint policy that keeps a front is worth more than its computed bound
pub keeper_under_computed_bound : (m : Model) → IsModel m → (h look : ℕ) (F : Front) (qs : List PolicyTree)
    (e : Bool)
    → IsFront m h F → IsPolicyOf m h qs → KeepsFront m F qs →
    (policy_value m h qs *ℤ pos ((enclosure e).unit (value_scale m h)))
    ≤ℤ (front_bound (arithmetic e m.scales) m h look F *ℤ pos (value_scale m h))
keeper_under_computed_bound m is h look F qs e front policy keeps =
    front_bound_bounds (arithmetic e m.scales) (enclosure e) m is (model_arithmetic_sound m is e)
    h look F qs front policy keeps
