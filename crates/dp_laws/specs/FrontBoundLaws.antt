-- The bound of a front is above every policy that keeps it, and never grows along a path of fronts.
use Rattle.std.specs.Prelude.{ℕ, suc, ◌+◌, ◌*◌, ◌^◌, ◌<◌, ◌≤◌, ◌≡◌, Bool, true, false, pos, ◌*ℤ◌, ◌≤ℤ◌, List, get_or}
use Rattle.dp_spec.specs.Model.{Model, IsModel, joint_observations, value_scale}
use Rattle.dp_spec.specs.PolicyTree.{PolicyTree, IsPolicyOf}
use Rattle.dp_spec.specs.Value.{policy_value}
use Rattle.dp_spec.specs.Front.{Front}
use Rattle.dp_spec.specs.WellFormed.{IsFront}
use Rattle.dp_spec.specs.Keeping.{KeepsFront}
use Rattle.dp_spec.specs.Bound.{bound_of}
use Rattle.dp_spec.specs.Arithmetic.{Arithmetic, arithmetic}
use Rattle.dp_spec.specs.Enclosure.{enclosure}
use Rattle.dp_spec.specs.Fitting.{front_bound}
use Rattle.dp_spec.specs.Mode.{is_exact_mode}
use Rattle.dp_spec.specs.Qualities.{spread_of}
use Rattle.dp_spec.specs.Steps.{IsUnassigned, is_complete, chosen_front, advanced_front, front_after_choice}
use Rattle.dp_spec.specs.Merge.{merged_front}

-- no policy that keeps a front from whose stage on r steps are left is worth more than its bound, with any look
abbrev pub NoKeepingPolicyAboveBound : Type 0
NoKeepingPolicyAboveBound =
    (m : Model) → IsModel m → (h r look : ℕ) (F : Front) (qs : List PolicyTree) → IsFront m h F
    → F.stage + r ≡ h →
    IsPolicyOf m h qs → KeepsFront m F qs →
    policy_value m h qs ≤ℤ bound_of m r F look

-- The same of the bound that is computed in the arithmetic of either mode: over the value scale the value is at most
-- the bound in the unit of the mode, which is the value scale in exact mode and 10^9 in outward mode.
abbrev pub NoKeepingPolicyAboveComputedBound : Type 0
NoKeepingPolicyAboveComputedBound =
    (m : Model) → IsModel m → (h look : ℕ) (F : Front) (qs : List PolicyTree) (e : Bool) → IsFront m h F →
    IsPolicyOf m h qs → KeepsFront m F qs →
    (policy_value m h qs *ℤ pos ((enclosure e).unit (value_scale m h)))
    ≤ℤ (front_bound (arithmetic e m.scales) m h look F *ℤ pos (value_scale m h))

-- a bound does not grow where an unassigned class is given an action of its agent (exact numbers)
abbrev pub ChoosingNeverRaisesBound : Type 0
ChoosingNeverRaisesBound =
    (m : Model) → IsModel m → (h r look : ℕ) (F : Front) (i c a : ℕ) → IsFront m h F → F.stage < h →
    IsUnassigned i c F.agents → a < get_or m.actions i 0 →
    bound_of m r (chosen_front F i c a) look ≤ℤ bound_of m r F look

-- nor does the bound that is computed in any arithmetic
abbrev pub ChoosingNeverRaisesComputedBound : Type 0
ChoosingNeverRaisesComputedBound =
    (A : Arithmetic) (m : Model) → IsModel m → (h look : ℕ) (F : Front) (i c a : ℕ) → IsFront m h F
    → F.stage < h →
    IsUnassigned i c F.agents → a < get_or m.actions i 0 →
    front_bound A m h look (chosen_front F i c a) ≤ℤ front_bound A m h look F

-- so in any arithmetic the spread of an unassigned class is never negative
abbrev pub SpreadsAreNeverNegative : Type 0
SpreadsAreNeverNegative =
    (A : Arithmetic) (m : Model) → IsModel m → (h look : ℕ) (F : Front) (i c : ℕ) → IsFront m h F
    → F.stage < h →
    IsUnassigned i c F.agents → pos 0 ≤ℤ spread_of A m h look F i c

-- in the arithmetic of the mode it is at most 2^127, in outward mode where the front's stage is within stage cells
abbrev pub SpreadsAreLimited : Type 0
SpreadsAreLimited =
    (m : Model) → IsModel m → (h : ℕ) → 0 < h → h ≤ 24 → (e : Bool) → e ≡ is_exact_mode m h
    → (look : ℕ) (F : Front)
    (i c : ℕ) → IsFront m h F → F.stage < h → IsUnassigned i c F.agents →
    (e ≡ false → m.states * joint_observations m ^ F.stage ≤ 2 ^ 22) →
    spread_of (arithmetic e m.scales) m h look F i c ≤ℤ pos (2 ^ 127)

-- a bound with a look of at least 1 does not grow where a complete front goes on to the next stage (exact numbers)
abbrev pub AdvancingNeverRaisesBound : Type 0
AdvancingNeverRaisesBound =
    (m : Model) → IsModel m → (h r look : ℕ) (F : Front) → IsFront m h F → F.stage < h
    → is_complete F.agents ≡ true →
    0 < look →
    bound_of m r (advanced_front m F) look ≤ℤ bound_of m (suc r) F look

-- a bound does not grow where two unassigned classes are merged, equivalent or not (exact numbers)
abbrev pub MergingNeverRaisesBound : Type 0
MergingNeverRaisesBound =
    (m : Model) (h r look : ℕ) (F : Front) (i a b : ℕ) → IsFront m h F → F.stage < h → a < b →
    IsUnassigned i a F.agents → IsUnassigned i b F.agents →
    bound_of m r (merged_front F i a b) look ≤ℤ bound_of m r F look

-- a bound with a look of at least 1 does not grow by a choice and the advance that may follow, where r steps are left
-- before and left steps after it (exact numbers)
abbrev pub ChoiceNeverRaisesBound : Type 0
ChoiceNeverRaisesBound =
    (m : Model) → IsModel m → (h r left look : ℕ) (F : Front) (i c a : ℕ) → IsFront m h F → F.stage < h →
    IsUnassigned i c F.agents → a < get_or m.actions i 0 → 0 < look →
    F.stage + r ≡ h → (front_after_choice m F i c a).stage + left ≡ h →
    bound_of m left (front_after_choice m F i c a) look ≤ℤ bound_of m r F look
