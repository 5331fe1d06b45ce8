-- A plan of version 1 is closed or has as many branches and merges as were allowed, since none of its nodes is wide
-- and in exact mode a full leaf states no more than the value of the policy that its front fixes.
use Rattle.std.proofs.Common.{◌≡◌, ◌⊎◌, inl, inr, ℕ, ◌<◌, Bool, true, false, ℤ, ◌≤ℤ◌, List, get_or, refl, sym, ap}
use Rattle.std.proofs.Common.{◌∙◌, subst, arith}
use Rattle.std.specs.Prelude.{◌<ℤ◌, All, IsTrue}
use Rattle.std.proofs.lemmas.Bool.{cases_lt}
use Rattle.std.proofs.lemmas.Int.{ints}
use Rattle.dp_spec.specs.declared.span.Span.{Span}
use Rattle.dp_laws.proofs.FullPolicies.{full_policy_keeps}
use Rattle.dp_laws.proofs.NodeFronts.{no_wide_node_in_one, nodes_have_room}
use Rattle.dp_laws.proofs.QuantityLaws.{exact_quantities}
use Rattle.dp_base.proofs.Order.{le_total}
use Rattle.dp_base.proofs.Ring.{zle_of, zle_trans}
use Rattle.dp_laws.proofs.SharedLaws.{plain_form_worth}
use Rattle.dp_spec.specs.Arithmetic.{arithmetic, exact}
use Rattle.dp_spec.specs.BoundTree.{BoundTree, branch, leaf, merge}
use Rattle.dp_spec.specs.Certificate.{Certificate, arithmetic_for}
use Rattle.dp_spec.specs.Fitting.{front_bound}
use Rattle.dp_spec.specs.Front.{Front}
use Rattle.dp_spec.specs.FullPolicy.{full_policy}
use Rattle.dp_spec.specs.Mode.{IsWithinLimits}
use Rattle.dp_spec.specs.Model.{IsModel, Model}
use Rattle.dp_spec.specs.Promises.{IsPlanned, PlanOptions}
use Rattle.dp_spec.specs.Qualities.{IfLeaf, IfOpenLeaf, IsClosed, IsRefined, Node, Place, certificate_nodes}
use Rattle.dp_spec.specs.SharedWorth.{form_in, low_worth}
use Rattle.dp_spec.specs.Steps.{root_front}
use Rattle.dp_spec.specs.Value.{policy_value}
use Rattle.dp_spec.specs.WellFormed.{IsFront}
use Rattle.dp_spec.specs.Wide.{has_room, is_wide}
use Rattle.dp_laws.proofs.FullBounds.{full_bound_is_value}
use Rattle.dp_laws.proofs.LowTrees.{low_leaves}

-- ---- open leaves

below_or_above : (x y : ℤ) → (x <ℤ y) ⊎ (y ≤ℤ x)
below_or_above x y = elim (le_total y x) [ inl le ↦ inr le | inr ge ↦ strict x y ge ]
  where
    strict : (x y : ℤ) → x ≤ℤ y → (x <ℤ y) ⊎ (y ≤ℤ x)
    strict x y le = grind (arith, ints)

-- where no node is wide a refined leaf is low
open_is_low : (s h : ℕ) (wide : Bool) (lower : ℤ) (T : BoundTree)
    → IfLeaf T (λ x. s < h → lower <ℤ x → wide ≡ true)
    → wide ≡ false → IfLeaf T (λ x. s < h → x ≤ℤ lower)
open_is_low s h wide lower (leaf x) refined narrow = λ lt.
    elim (below_or_above lower x) [
      | inl less ↦ absurd (let yes' = refined lt less in cc)
      | inr le ↦ le
    ]
open_is_low s h wide lower (branch i c ks) refined narrow = tt
open_is_low s h wide lower (merge i a b k) refined narrow = tt

-- ---- full leaves in exact mode

-- in version 1 the low worth of the policy of a full front is its value
full_worth_is_value : (m : Model) (h : ℕ) (F : Front) → IsModel m → IsWithinLimits m h → IsFront m h F
    → F.stage ≡ h
    → low_worth (exact m.scales) m 1 h (full_policy m F) ≡ policy_value m h (full_policy m F)
unfolding low_worth form_in
full_worth_is_value m h F is limits front e =
    let policy = (full_policy_keeps m h F front e).0 in
    ap (λ (s : Span). s.low) (plain_form_worth (exact m.scales) m h (full_policy m F)
    is limits.some_step limits.stage_cells policy ∙ (exact_quantities m is).worths h (full_policy m F))

-- a full leaf that states no more than its front's bound is low
full_is_low : (m : Model) (e : Bool) (h look : ℕ) (F : Front) (lower x : ℤ) → e ≡ true → IsModel m
    → IsWithinLimits m h → IsFront m h F
    → F.stage ≡ h → low_worth (arithmetic e m.scales) m 1 h (full_policy m F) ≤ℤ lower
    → x ≤ℤ front_bound (arithmetic e m.scales) m h look F → x ≤ℤ lower
full_is_low m true h look F lower x yes' is limits front full low le =
    zle_trans _ _ _ le (zle_trans _ _ _ (zle_of _ _ (full_bound_is_value m h look F is front full
    ∙ sym (full_worth_is_value m h F is limits front full))) low)
full_is_low m false h look F lower x no' is limits front full low le = cc

-- ---- plans

module _ (m : Model) (May : List Place → ℕ → Type 0) (h : ℕ) (asked : PlanOptions) (c : Certificate)
    (is : IsModel m) (plan : IsPlanned m May h asked c) (one : c.version ≡ 1) where
  limits : IsWithinLimits m c.horizon
  limits = plan.valid.within.first one

  -- no node is wide
  none_wide : All (λ n. is_wide m c.horizon n.above n.front ≡ false) (certificate_nodes m c)
  none_wide = no_wide_node_in_one (arithmetic_for m c) m c.horizon c.look c.tree is limits plan.valid.tree

  -- the fronts are well formed
  fronts : All (λ n. IsFront m c.horizon n.front × (has_room m c.horizon n.front ≡ true))
      (certificate_nodes m c)
  fronts = nodes_have_room (arithmetic_for m c) m c.horizon c.look c.tree is plan.valid.tree

  -- so where it is refined each open leaf is low
  open_low : IsRefined m c → All (λ n. IfOpenLeaf c.horizon n (λ x. x ≤ℤ c.lower)) (certificate_nodes m c)
  open_low refined = λ i n lt. open_is_low _ c.horizon _ c.lower _ (refined i n lt) (none_wide i n lt)

  -- and in exact mode each full leaf
  leaf_low : (n : Node) (T : BoundTree) → c.is_exact ≡ true → IsFront m c.horizon n.front
      → IfLeaf T (λ x. n.front.stage < c.horizon → x ≤ℤ c.lower)
      → IfLeaf T (λ x. n.front.stage ≡ c.horizon → low_worth (arithmetic_for m c) m c.version c.horizon
      (full_policy m n.front) ≤ℤ c.lower)
      → IfLeaf T (λ x. x ≤ℤ front_bound (arithmetic_for m c) m c.horizon c.look n.front → x ≤ℤ c.lower)
  leaf_low n (leaf x) e front near full = λ le.
      elim (cases_lt n.front.stage c.horizon) [
        | inl lt ↦ near lt
        | inr ge ↦
            let limit = front.stage_limit in
            let same : n.front.stage ≡ c.horizon = omega arith in
            full_is_low m c.is_exact c.horizon c.look n.front c.lower x e is limits front same
            (subst (λ (v : ℕ). low_worth (arithmetic_for m c) m v c.horizon (full_policy m n.front)
            ≤ℤ c.lower) one
            (full same)) le
      ]
  leaf_low n (branch i k ks) e front near full = tt
  leaf_low n (merge i a b k) e front near full = tt

  -- so it is closed
  refined_is_closed : IsRefined m c → IsClosed m c
  refined_is_closed refined =
      let near = open_low refined in
      record {
        open_leaves = near;
        exact_leaves = λ e.
            low_leaves (arithmetic_for m c) m c.horizon c.look c.lower 0 c.tree (root_front m) _ plan.valid.tree
            (zle_of _ _ refl)
            (λ i n lt. let x = get_or (certificate_nodes m c) i n in
            leaf_low x x.tree e (fronts i n lt).0 (near i n lt) (plan.full_leaves i n lt));
      }

-- a plan of version 1 is closed or has as many branches and merges as were allowed
pub plan_ends : (m : Model) (May : List Place → ℕ → Type 0) (h : ℕ) (asked : PlanOptions) (c : Certificate)
    → IsModel m
    → IsPlanned m May h asked c → c.version ≡ 1 → IsClosed m c ⊎ (c.inner ≡ asked.nodes)
plan_ends m May h asked c is plan one =
    elim plan.ended [
      | inl closed ↦ inl closed
      | inr rest ↦ elim rest [
        | inl all ↦ inr all
        | inr refined ↦ inl (refined_is_closed m May h asked c is plan one refined)
      ]
    ]

-- the same by a rule that is a test
pub tested_plan_ends : (m : Model) (may : List Place → ℕ → Bool) (h : ℕ) (asked : PlanOptions) (c : Certificate)
    → IsModel m
    → IsPlanned m (λ places x. IsTrue (may places x)) h asked c → c.version ≡ 1
    → IsClosed m c ⊎ (c.inner ≡ asked.nodes)
tested_plan_ends m may h asked c is plan one = plan_ends m (λ places x. IsTrue (may places x))
    h asked c is plan one
