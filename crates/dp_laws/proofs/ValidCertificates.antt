-- What a valid certificate claims is true.
use Rattle.std.proofs.Common.{◌≡◌, ℕ, Bool, true, ℤ, pos, ◌*ℤ◌, ◌≤ℤ◌, sym, ap, ◌∙◌, subst}
use Rattle.dp_spec.specs.declared.span.Span.{Span}
use Rattle.dp_laws.proofs.FittingTrees.{fitting_root_bounds}
use Rattle.dp_base.proofs.Order.{equal_of_le, le_of_mul_le_right}
use Rattle.dp_laws.proofs.Leaves.{greatest_leaf-at_most, greatest_leaf_below}
use Rattle.dp_laws.proofs.Modes.{model_arithmetic_sound, low_reads, mode_unit}
use Rattle.dp_base.proofs.Ring.{zle_trans}
use Rattle.dp_laws.proofs.RootFront.{root_is_front}
use Rattle.dp_spec.proofs.QuantityScales.{value_scale_positive}
use Rattle.dp_laws.proofs.PlainWorth.{plain_worth_is_forward}
use Rattle.dp_spec.specs.Quantities.{forward_worth_in}
use Rattle.dp_laws.proofs.SharedLaws.{exact_shared_worth, shared_worth_in_mode}
use Rattle.dp_laws.proofs.SharedTrees.{unfolded_is_policy}
use Rattle.dp_spec.specs.BoundTree.{LeavesAtMost}
use Rattle.dp_spec.specs.Certificate.{Certificate, IsValid, arithmetic_for}
use Rattle.dp_spec.specs.Claims.{BoundsEveryPolicy, ClaimsHold, IsOptimal}
use Rattle.dp_spec.specs.Enclosure.{enclosure}
use Rattle.dp_spec.specs.Arithmetic.{arithmetic}
use Rattle.dp_spec.specs.Model.{IsModel, Model, value_scale}
use Rattle.dp_spec.specs.Qualities.{IsClosed}
use Rattle.dp_spec.specs.PolicyTree.{IsPolicyOf}
use Rattle.dp_spec.specs.SharedPolicy.{unfolded}
use Rattle.dp_spec.specs.SharedWorth.{shared_worth_in}
use Rattle.dp_spec.specs.Steps.{root_front}
use Rattle.dp_spec.specs.Value.{policy_value}

-- the unit of a valid certificate is that of its mode
unit_of_valid : (m : Model) (c : Certificate) → IsValid m c
    → pos ((enclosure c.is_exact).unit (value_scale m c.horizon)) ≡ c.unit
unit_of_valid m c v = ap (λ (n : ℕ). pos n) (sym (mode_unit m c.horizon c.is_exact v.mode)) ∙ sym v.unit

-- what the rows of a valid certificate mean is a joint policy
policy_of_valid : (m : Model) (c : Certificate) → IsValid m c → IsPolicyOf m c.horizon (unfolded c.policy)
policy_of_valid m c v = unfolded_is_policy m c.horizon c.policy v.policy.shared

-- what is at least each leaf bounds every joint policy
bounds_every_policy : (m : Model) (c : Certificate) → IsModel m → IsValid m c → (u : ℤ) → LeavesAtMost u c.tree
    → BoundsEveryPolicy m c.horizon c.unit u
bounds_every_policy m c is v u below =
    subst (λ (z : ℤ). BoundsEveryPolicy m c.horizon z u) (unit_of_valid m c v)
    (fitting_root_bounds (arithmetic_for m c) (enclosure c.is_exact) m is
    (model_arithmetic_sound m is c.is_exact)
    c.horizon c.look c.tree u v.tree below)

-- no joint policy is worth more than the upper end
upper_bounds : (m : Model) (c : Certificate) → IsModel m → IsValid m c
    → BoundsEveryPolicy m c.horizon c.unit c.upper
upper_bounds m c is v = bounds_every_policy m c is v c.upper
    (subst (λ (u : ℤ). LeavesAtMost u c.tree) (sym v.upper) (greatest_leaf-at_most c.tree))

-- the policy is worth at least the lower end
lower_reached : (m : Model) (c : Certificate) → IsModel m → IsValid m c
    → (c.lower *ℤ pos (value_scale m c.horizon)) ≤ℤ (policy_value m c.horizon (unfolded c.policy) *ℤ c.unit)
lower_reached m c is v =
    let span = shared_worth_in (arithmetic_for m c) m c.horizon c.policy in
    let low = low_reads c.is_exact (value_scale m c.horizon) _ span
    (shared_worth_in_mode m is c.is_exact c.horizon c.policy v.policy.shared) in
    subst (λ (z : ℤ). (z *ℤ pos (value_scale m c.horizon)) ≤ℤ (policy_value m c.horizon (unfolded c.policy)
    *ℤ c.unit)) (sym v.lower)
    (subst (λ (z : ℤ). (span.low *ℤ pos (value_scale m c.horizon))
    ≤ℤ (policy_value m c.horizon (unfolded c.policy) *ℤ z)) (unit_of_valid m c v) low)

-- the claims of a valid certificate hold
pub claims_hold : (m : Model) (c : Certificate) → IsModel m → IsValid m c → ClaimsHold m c
claims_hold m c is v =
    let none_better = upper_bounds m c is v in
    let policy = policy_of_valid m c v in
    record {
      policy = policy;
      above_lower = lower_reached m c is v;
      below_upper = none_better (unfolded c.policy) policy;
      none_better = none_better;
    }

-- the lower end is at most the upper end, since the value of the policy lies between them
pub ends_in_order : (m : Model) (c : Certificate) → IsModel m → IsValid m c → c.lower ≤ℤ c.upper
ends_in_order m c is v = le_of_mul_le_right (value_scale m c.horizon) _ _ (value_scale_positive m c.horizon is)
    (zle_trans _ _ _ (lower_reached m c is v) (upper_bounds m c is v (unfolded c.policy)
    (policy_of_valid m c v)))

-- in version 1 the lower end is the forward worth of the policy that the rows mean
pub lower_of_one : (m : Model) (c : Certificate) → IsValid m c → c.version ≡ 1
    → c.lower ≡ (forward_worth_in (arithmetic_for m c) m c.horizon (unfolded c.policy)).low
lower_of_one m c v one =
    v.lower ∙ ap (λ (s : Span). s.low) (plain_worth_is_forward (arithmetic_for m c)
    m c.horizon c.policy v.policy.shared (v.policy.plain one))

-- ---- in exact mode

-- the lower end is the value of the policy
pub lower_is_value : (m : Model) (c : Certificate) → IsValid m c → c.is_exact ≡ true
    → c.lower ≡ policy_value m c.horizon (unfolded c.policy)
lower_is_value m c v e =
    v.lower
    ∙ ap (λ (t : Bool). (shared_worth_in (arithmetic t m.scales) m c.horizon c.policy).low) e
    ∙ ap (λ (s : Span). s.low) (exact_shared_worth m c.horizon c.policy v.policy.shared)

-- the unit is the value scale
exact_unit : (m : Model) (c : Certificate) → IsValid m c → c.is_exact ≡ true
    → c.unit ≡ pos (value_scale m c.horizon)
exact_unit m c v e = sym (unit_of_valid m c v) ∙ ap (λ (t : Bool). pos
    ((enclosure t).unit (value_scale m c.horizon))) e

-- what bounds every policy does so in the value scale
exact_bound_of : (m : Model) (c : Certificate) → IsModel m → IsValid m c → c.is_exact ≡ true → (u : ℤ)
    → BoundsEveryPolicy m c.horizon c.unit u → BoundsEveryPolicy m c.horizon (pos (value_scale m c.horizon)) u
exact_bound_of m c is v e u h = subst (λ (z : ℤ). BoundsEveryPolicy m c.horizon z u) (exact_unit m c v e) h

-- a closed certificate has equal ends and an optimal policy
pub closed_is_optimal : (m : Model) (c : Certificate) → IsModel m → IsValid m c → IsClosed m c
    → c.is_exact ≡ true
    → (c.lower ≡ c.upper) × IsOptimal m c.horizon (unfolded c.policy)
closed_is_optimal m c is v closed e =
    let n = value_scale m c.horizon in
    let some = value_scale_positive m c.horizon is in
    let below = closed.exact_leaves e in
    let top = greatest_leaf_below (arithmetic_for m c) m is c.horizon c.look c.lower 0 c.tree (root_front m) _
    (root_is_front m c.horizon is) v.tree below in
    let upper_lower : c.upper ≤ℤ c.lower = subst (λ (u : ℤ). u ≤ℤ c.lower) (sym v.upper) top in
    let value = lower_is_value m c v e in
    let best = exact_bound_of m c is v e c.lower (bounds_every_policy m c is v c.lower below) in (
      equal_of_le _ _ (ends_in_order m c is v) upper_lower,
      record {
        policy = policy_of_valid m c v;
        none_better = λ others policy. subst
            (λ (x : ℤ). policy_value m c.horizon others ≤ℤ x) value
            (le_of_mul_le_right n _ _ some (best others policy));
      },
    )
