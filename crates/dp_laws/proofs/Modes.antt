-- the arithmetic of a mode is sound, and what it says in the mode's unit
use Rattle.std.proofs.Common.{◌≡◌, ℕ, ◌^◌, Bool, true, false, ℤ, pos, ◌*ℤ◌, ◌≤ℤ◌, refl, sym, ap, ◌∙◌}
use Rattle.std.specs.Prelude.{IsTrue, if◌then◌else◌}
use Rattle.dp_spec.specs.declared.scales.Scales.{Scales}
use Rattle.dp_spec.specs.declared.span.Span.{Span}
use Rattle.dp_spec.specs.Calls.{AreInRange}
use Rattle.dp_spec.proofs.ScaleRange.{scales_in_range}
use Rattle.dp_laws.proofs.ExactArithmetic.{exact_sound}
use Rattle.dp_laws.proofs.OutwardArithmetic.{outward_sound}
use Rattle.dp_base.proofs.Ring.{zle_of}
use Rattle.dp_spec.specs.Arithmetic.{arithmetic, exact}
use Rattle.dp_spec.specs.Enclosure.{IsSound, enclosure}
use Rattle.dp_spec.specs.Mode.{is_exact_mode, unit_of}
use Rattle.dp_spec.specs.Model.{IsModel, Model, value_scale}

-- the arithmetic of either mode is sound
pub arithmetic_sound : (c : Scales) → AreInRange c → (e : Bool) → IsSound c (arithmetic e c) (enclosure e)
arithmetic_sound c range true = exact_sound c
arithmetic_sound c range false = outward_sound c range

-- over the scales of a model
pub model_arithmetic_sound : (m : Model) → IsModel m → (e : Bool)
    → IsSound m.scales (arithmetic e m.scales) (enclosure e)
model_arithmetic_sound m is e = arithmetic_sound m.scales (scales_in_range m.scales is.scales) e

-- the low end of what is earned is at most the true number
pub low_reads : (e : Bool) (F : ℕ) (x : ℤ) (s : Span) → (enclosure e).Earns F x s
    → (s.low *ℤ pos F) ≤ℤ (x *ℤ pos ((enclosure e).unit F))
low_reads true F x s h = zle_of _ _ (ap (λ (s : Span). s.low *ℤ pos F) h)
low_reads false F x s h = h.from

-- by the mode
unit_is : (e : Bool) (u : ℕ) → (if e then u else 10 ^ 9) ≡ (enclosure e).unit u
unit_is true u = refl
unit_is false u = refl

-- the unit of a mode is that of its enclosure
pub mode_unit : (m : Model) (h : ℕ) (e : Bool) → e ≡ is_exact_mode m h
    → unit_of m h ≡ (enclosure e).unit (value_scale m h)
unfolding unit_of
mode_unit m h e is = ap (λ (t : Bool). if t then value_scale m h else 10 ^ 9) (sym is)
    ∙ unit_is e (value_scale m h)

-- the arithmetic of exact mode says that it is exact
pub arithmetic_says : (e : Bool) (c : Scales) → e ≡ true → IsTrue (arithmetic e c).is_exact
unfolding exact
arithmetic_says true c same = refl
arithmetic_says false c same = cc same
