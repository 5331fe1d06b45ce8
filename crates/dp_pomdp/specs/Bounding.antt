-- That a number bounds what joint policies earn from weights over the steps that are left.
use Rattle.std.specs.Prelude.{ℕ, ◌-◌, ◌*◌, ◌^◌, ◌≡◌, Bool, ℤ, pos, ◌*ℤ◌, ◌≤ℤ◌, List}
use Rattle.dp_spec.specs.declared.span.Span.{Span}
use Rattle.dp_base.specs.Sums.{int_sum}
use Rattle.dp_spec.specs.Model.{Model, step_scale, value_scale}
use Rattle.dp_spec.specs.PolicyTree.{IsPolicyOf, PolicyTree}
use Rattle.dp_spec.specs.Value.{backward_value, joint_root_action}
use Rattle.dp_spec.specs.Enclosure.{enclosure}
use Rattle.dp_laws.specs.ArithmeticLaws.{WeighEach}

-- what a joint policy of r steps earns from weights w
abbrev pub earned_from : Model → ℕ → (ℕ → ℕ) → List PolicyTree → ℤ
earned_from m r w qs = int_sum m.states (λ s. pos (w s) *ℤ backward_value m r s qs)

-- w are true weights of time t that the spans ws hold
abbrev pub AreHeld : Bool → Model → ℕ → (ℕ → Span) → (ℕ → ℕ) → Type 0
AreHeld e m t ws w = WeighEach m (enclosure e) (m.scales.start * step_scale m ^ t) w ws

-- From no true weights that the spans ws of time t hold does a joint policy of the steps that are left, of h in all,
-- earn more than x / unit. (What is earned is counted in the value scale.)
abbrev pub BoundsEarnings : Bool → Model → ℕ → ℤ → ℕ → (ℕ → Span) → ℤ → Type 0
BoundsEarnings e m h unit t ws x =
    (w : ℕ → ℕ) (qs : List PolicyTree) → AreHeld e m t ws w → IsPolicyOf m (h - t) qs →
    (earned_from m (h - t) w qs *ℤ unit) ≤ℤ (x *ℤ pos (value_scale m h))

-- the same of joint policies whose roots do joint action a
abbrev pub BoundsEarningsOf : Bool → Model → ℕ → ℤ → ℕ → (ℕ → Span) → ℕ → ℤ → Type 0
BoundsEarningsOf e m h unit t ws a x =
    (w : ℕ → ℕ) (qs : List PolicyTree) → AreHeld e m t ws w → IsPolicyOf m (h - t) qs
    → joint_root_action m qs ≡ a →
    (earned_from m (h - t) w qs *ℤ unit) ≤ℤ (x *ℤ pos (value_scale m h))
