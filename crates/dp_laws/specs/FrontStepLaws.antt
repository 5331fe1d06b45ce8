-- What the steps of a front keep: well-formedness, and the policies that keep the front.
use Rattle.std.specs.Prelude.{ℕ, ◌<◌, ◌≡◌, true, List, get_or}
use Rattle.dp_spec.specs.Model.{Model}
use Rattle.dp_spec.specs.Front.{Front}
use Rattle.dp_spec.specs.PolicyTree.{PolicyTree, IsPolicyOf}
use Rattle.dp_spec.specs.Keeping.{KeepsFront}
use Rattle.dp_spec.specs.WellFormed.{IsFront}
use Rattle.dp_spec.specs.Steps.{IsUnassigned, is_complete, chosen_front, advanced_front, front_after_choice}
use Rattle.dp_spec.specs.Merge.{merged_front}

-- a well-formed front stays so where an unassigned class is given an action of its agent
abbrev pub ChoosingKeepsWellFormed : Type 0
ChoosingKeepsWellFormed =
    (m : Model) (h : ℕ) (F : Front) (i c a : ℕ) → IsFront m h F → F.stage < h → IsUnassigned i c F.agents →
    a < get_or m.actions i 0 →
    IsFront m h (chosen_front F i c a)

-- a well-formed front stays so where it is complete and goes on to the next stage
abbrev pub AdvancingKeepsWellFormed : Type 0
AdvancingKeepsWellFormed =
    (m : Model) (h : ℕ) (F : Front) → IsFront m h F → F.stage < h → is_complete F.agents ≡ true →
    IsFront m h (advanced_front m F)

-- a well-formed front stays so where two unassigned classes of one agent are merged
abbrev pub MergingKeepsWellFormed : Type 0
MergingKeepsWellFormed =
    (m : Model) (h : ℕ) (F : Front) (i a b : ℕ) → IsFront m h F → F.stage < h → a < b
    → IsUnassigned i a F.agents →
    IsUnassigned i b F.agents →
    IsFront m h (merged_front F i a b)

-- a well-formed front stays so after a choice, and after the advance where it follows
abbrev pub FrontAfterChoiceIsWellFormed : Type 0
FrontAfterChoiceIsWellFormed =
    (m : Model) (h : ℕ) (F : Front) (i c a : ℕ) → IsFront m h F → F.stage < h → IsUnassigned i c F.agents →
    a < get_or m.actions i 0 →
    IsFront m h (front_after_choice m F i c a)

-- a policy that keeps a front keeps one of its fronts after a choice of any unassigned class
abbrev pub KeepingPolicyMakesChoice : Type 0
KeepingPolicyMakesChoice =
    (m : Model) (h : ℕ) (F : Front) (qs : List PolicyTree) (i c : ℕ) → IsFront m h F → F.stage < h →
    IsPolicyOf m h qs → KeepsFront m F qs → IsUnassigned i c F.agents →
    (a : ℕ) × (a < get_or m.actions i 0) × KeepsFront m (chosen_front F i c a) qs

-- a policy that keeps a complete front keeps the advanced front
abbrev pub KeepingPolicyAdvances : Type 0
KeepingPolicyAdvances =
    (m : Model) (h : ℕ) (F : Front) (qs : List PolicyTree) → IsFront m h F → KeepsFront m F qs →
    is_complete F.agents ≡ true → KeepsFront m (advanced_front m F) qs

-- a policy that keeps a front keeps one of its fronts after a choice, and after the advance where it follows
abbrev pub KeepingPolicyGoesOn : Type 0
KeepingPolicyGoesOn =
    (m : Model) (h : ℕ) (F : Front) (qs : List PolicyTree) (i c : ℕ) → IsFront m h F → F.stage < h →
    IsPolicyOf m h qs → KeepsFront m F qs → IsUnassigned i c F.agents →
    (a : ℕ) × (a < get_or m.actions i 0) × KeepsFront m (front_after_choice m F i c a) qs
