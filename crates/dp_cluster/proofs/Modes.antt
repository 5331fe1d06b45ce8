-- The arithmetic of a mode, as a branch of a test makes it.
use Rattle.std.proofs.Common.{◌≡◌, ℕ, ◌<◌, ◌≤◌, Bool, sym, ap, subst, ◌∙◌}
use Rattle.dp_spec.specs.declared.scales.Scales.{Scales}
use Rattle.dp_spec.specs.Arithmetic.{arithmetic}
use Rattle.dp_spec.specs.Calls.{calls_in}
use Rattle.dp_spec.specs.Mode.{is_exact_mode}
use Rattle.dp_spec.specs.Model.{IsModel, Model, start_at}
use Rattle.dp_laws.proofs.SizeLaws.{mode_can_update_weights}

-- made of the scales c, in the branch of a test of x where it is e
pub same_arithmetic : (e x : Bool) (c : Scales) (m : Model) → c ≡ m.scales → x ≡ e
    → arithmetic e c ≡ arithmetic x m.scales
same_arithmetic e x c m same branch = ap (arithmetic e) same
    ∙ ap (λ (b : Bool). arithmetic b m.scales) (sym branch)

-- the calls for the weights of the start
pub starts : (e x : Bool) (c : Scales) (m : Model) → IsModel m → c ≡ m.scales → x ≡ e → (h : ℕ) → 0 < h → h ≤ 24
    → x ≡ is_exact_mode m h
    → (s : ℕ) → s < m.states → (calls_in e c).Start (start_at m s)
starts e x c m is same branch h some limit mode s p =
    subst (λ (c : Scales). (calls_in e c).Start (start_at m s)) (sym same)
    ((mode_can_update_weights m is h some limit e (sym branch ∙ mode)).start s p)
