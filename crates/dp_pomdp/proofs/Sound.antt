-- No joint policy earns more than look-ahead says, in either mode.
use Rattle.std.proofs.Common.{◌≡◌, ℕ, suc, ◌+◌, ◌*◌, ◌-◌, ◌^◌, ◌<◌, ◌≤◌, Bool, ℤ, pos, ◌*ℤ◌, ◌≤ℤ◌, List, sym, subst}
use Rattle.std.proofs.Common.{ap, ◌∙◌, arith}
use Rattle.std.proofs.lemmas.Nat.{pow-add}
use Rattle.dp_spec.specs.declared.span.Span.{Span}
use Rattle.dp_spec.specs.Model.{IsModel, Model, step_scale, value_scale}
use Rattle.dp_spec.specs.Mode.{IsTrueFit}
use Rattle.dp_spec.specs.PolicyTree.{IsPolicyOf, PolicyTree}
use Rattle.dp_spec.specs.Value.{joint_root_action}
use Rattle.dp_spec.specs.LookAhead.{action_look_ahead, look_ahead}
use Rattle.dp_spec.specs.Arithmetic.{arithmetic}
use Rattle.dp_spec.specs.Enclosure.{enclosure}
use Rattle.dp_spec.specs.Quantities.{action_look_ahead_in, look_ahead_in}
use Rattle.dp_base.proofs.Order.{mul_le_right}
use Rattle.dp_base.proofs.Ring.{zle_trans}
use Rattle.dp_laws.proofs.LongerLook.{value_under_action}
use Rattle.dp_laws.proofs.Modes.{mode_unit, model_arithmetic_sound}
use Rattle.dp_laws.proofs.OneStep.{value_le_look_ahead}
use Rattle.dp_laws.proofs.QuantityLaws.{mode_quantities}
use Rattle.dp_pomdp.specs.Bounding.{AreHeld, BoundsEarnings, BoundsEarningsOf, earned_from}

-- the scale of weights of time t times that of what r steps earn from them
scales_meet : (m : Model) (h t r : ℕ) → t + r ≡ h
    → m.scales.start * step_scale m ^ t * (m.scales.reward * step_scale m ^ r) ≡ value_scale m h
unfolding value_scale
scales_meet m h t r left =
    regroup m.scales.start (step_scale m ^ t) m.scales.reward (step_scale m ^ r)
    ∙ ap (λ (k : ℕ). m.scales.start * (m.scales.reward * k))
    (sym (pow-add (step_scale m) t r) ∙ ap (λ (n : ℕ). step_scale m ^ n) left)
  where
    regroup : (s k d l : ℕ) → s * k * (d * l) ≡ s * (d * (k * l))
    regroup s k d l = omega arith

-- in the unit of the mode
above_in_unit : (e : Bool) (m : Model) (h : ℕ) (u x v : ℤ) (F : ℕ) → IsTrueFit m h e u → F ≡ value_scale m h
    → (x *ℤ pos ((enclosure e).unit F)) ≤ℤ (v *ℤ pos F) → (x *ℤ u) ≤ℤ (v *ℤ pos (value_scale m h))
above_in_unit e m h u x v F fit scale above =
    let of_scale = subst (λ (n : ℕ). (x *ℤ pos ((enclosure e).unit n)) ≤ℤ (v *ℤ pos n)) scale above in
    let unit : pos ((enclosure e).unit (value_scale m h)) ≡ u =
    ap (λ (n : ℕ). pos n) (sym (mode_unit m h e fit.mode)) ∙ sym fit.unit in
    subst (λ (z : ℤ). (x *ℤ z) ≤ℤ (v *ℤ pos (value_scale m h))) unit of_scale

pub look_ahead_bounds : (e : Bool) (m : Model) → IsModel m → (h t look : ℕ) (u : ℤ) → IsTrueFit m h e u → t ≤ h
    → (ws : ℕ → Span) → BoundsEarnings e m h u t ws (look_ahead_in (arithmetic e m.scales) m (h - t) ws look)
look_ahead_bounds e m is h t look u fit early ws w qs held policy =
    let r = h - t in
    let T = m.scales.start * step_scale m ^ t in
    let F = T * (m.scales.reward * step_scale m ^ r) in
    let left : t + (h - t) ≡ h = omega arith in
    let true_look = mul_le_right ((enclosure e).unit F) _ _ (value_le_look_ahead m is r look w qs policy) in
    let above = (mode_quantities m is e).look_aheads T r look w ws held in
    above_in_unit e m h u (earned_from m r w qs) (look_ahead_in (arithmetic e m.scales) m r ws look) F fit
    (scales_meet m h t r left)
    (zle_trans _ _ _ true_look ((model_arithmetic_sound m is e).reads F (look_ahead m r w look) _ above))

-- with a step that is left after the joint action
action_bounds : (e : Bool) (m : Model) → IsModel m → (h t r a look : ℕ) (u : ℤ) → IsTrueFit m h e u
    → t + suc r ≡ h
    → (ws : ℕ → Span) (w : ℕ → ℕ) (qs : List PolicyTree) → AreHeld e m t ws w → IsPolicyOf m (suc r) qs
    → joint_root_action m qs ≡ a →
    (earned_from m (suc r) w qs *ℤ u)
    ≤ℤ (action_look_ahead_in (arithmetic e m.scales) m r ws a look *ℤ pos (value_scale m h))
action_bounds e m is h t r a look u fit left ws w qs held policy root =
    let T = m.scales.start * step_scale m ^ t in
    let F = T * (m.scales.reward * step_scale m ^ suc r) in
    let true_look = mul_le_right ((enclosure e).unit F) _ _ (value_under_action m is r look w a qs policy
    root) in
    let above = (mode_quantities m is e).action_look_aheads T r look w ws a held in
    above_in_unit e m h u (earned_from m (suc r) w qs) (action_look_ahead_in (arithmetic e m.scales)
    m r ws a look)
    F fit
    (scales_meet m h t (suc r) left)
    (zle_trans _ _ _ true_look ((model_arithmetic_sound m is e).reads F (action_look_ahead m r w a look)
    _ above))

pub action_look_ahead_bounds : (e : Bool) (m : Model) → IsModel m → (h t a look : ℕ) (u : ℤ) → IsTrueFit m h e u
    → t < h → (ws : ℕ → Span)
    → BoundsEarningsOf e m h u t ws a (action_look_ahead_in (arithmetic e m.scales) m (h - t - 1) ws a look)
action_look_ahead_bounds e m is h t a look u fit early ws w qs held policy root =
    let steps : h - t ≡ suc (h - t - 1) = omega arith in
    let left : t + suc (h - t - 1) ≡ h = omega arith in
    let of_steps = subst (λ (n : ℕ). IsPolicyOf m n qs) steps policy in
    subst
    (λ (n : ℕ). (earned_from m n w qs *ℤ u) ≤ℤ (action_look_ahead_in (arithmetic e m.scales) m (h - t - 1)
    ws a look *ℤ pos (value_scale m h)))
    (sym steps) (action_bounds e m is h t (h - t - 1) a look u fit left ws w qs held of_steps root)
