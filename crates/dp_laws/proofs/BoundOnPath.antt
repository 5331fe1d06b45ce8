-- a bound does not grow along a path of fronts
use Rattle.std.proofs.Common.{◌≡◌, ℕ, suc, ◌+◌, ◌<◌, Bool, true, false, ◌≤ℤ◌, get_or, refl, subst, arith}
use Rattle.dp_laws.proofs.AdvancedBound.{advanced_bound_le}
use Rattle.dp_laws.proofs.ChosenBound.{chosen_bound_le}
use Rattle.dp_base.proofs.Ring.{zle_of, zle_trans}
use Rattle.dp_laws.proofs.WellFormedSteps.{chosen_is_front}
use Rattle.dp_spec.specs.Bound.{bound_of}
use Rattle.dp_spec.specs.Front.{Front}
use Rattle.dp_spec.specs.Model.{IsModel, Model}
use Rattle.dp_spec.specs.Steps.{IsUnassigned, advanced_if, chosen_front, front_after_choice, is_complete, with_choice}
use Rattle.dp_spec.specs.WellFormed.{IsFront}

advanced_if_bound_le : (m : Model) → IsModel m → (h r left look : ℕ) (F : Front) → IsFront m h F → F.stage < h
    → 0 < look → (t : Bool) → is_complete F.agents ≡ t → F.stage + r ≡ h
    → (advanced_if m F t).stage + left ≡ h →
    bound_of m left (advanced_if m F t) look ≤ℤ bound_of m r F look
advanced_if_bound_le m ok h r left look F front lt some true all here next =
    let e : suc left ≡ r = omega arith in
    subst (λ (n : ℕ). bound_of m left (advanced_if m F true) look ≤ℤ bound_of m n F look) e
    (advanced_bound_le m ok h left look F front lt all some)
advanced_if_bound_le m ok h r left look F front lt some false unchosen here next = let e : left
    ≡ r = omega arith in zle_of _ _ (rw e)

-- a bound does not grow by a choice and the advance that may follow
pub after_choice_bound_le : (m : Model) → IsModel m → (h r left look : ℕ) (F : Front) (i c a : ℕ)
    → IsFront m h F
    → F.stage < h → IsUnassigned i c F.agents → a < get_or m.actions i 0 → 0 < look →
    F.stage + r ≡ h → (front_after_choice m F i c a).stage + left ≡ h
    → bound_of m left (front_after_choice m F i c a) look ≤ℤ bound_of m r F look
unfolding front_after_choice
after_choice_bound_le m ok h r left look F i c a front lt free p some here next =
    zle_trans _ _ _
    (advanced_if_bound_le m ok h r left look (chosen_front F i c a)
    (chosen_is_front m h F i c a front lt free p)
    lt some (is_complete (with_choice i c a F.agents)) refl here next)
    (chosen_bound_le m ok h r look F i c a front lt free p)
