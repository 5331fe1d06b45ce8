-- Choices that are taken back.
use Rattle.std.specs.Prelude.{◌≡◌, ℕ}
use Rattle.dp_spec.specs.Front.{Front}
use Rattle.dp_spec.specs.Model.{Model}
use Rattle.dp_spec.specs.Steps.{HasAction, IsUnassigned, chosen_front, unchosen_front}
use Rattle.dp_spec.specs.WellFormed.{IsFront}

-- a choice that is taken back leaves the front as it was
abbrev pub ChoosingIsUndone : Type 0
ChoosingIsUndone = (F : Front) (i c a : ℕ) → IsUnassigned i c F.agents
    → unchosen_front (chosen_front F i c a) i c ≡ F

-- so does one that is taken back and made again
abbrev pub UnchoosingIsUndone : Type 0
UnchoosingIsUndone = (F : Front) (i c a : ℕ) → HasAction i c a F.agents
    → chosen_front (unchosen_front F i c) i c a ≡ F

-- a class whose action is taken back is unassigned, and one that is given an action has it
abbrev pub UnchosenIsUnassigned : Type 0
UnchosenIsUnassigned = (F : Front) (i c a : ℕ) → HasAction i c a F.agents
    → IsUnassigned i c (unchosen_front F i c).agents

abbrev pub ChosenHasAction : Type 0
ChosenHasAction = (F : Front) (i c a : ℕ) → IsUnassigned i c F.agents
    → HasAction i c a (chosen_front F i c a).agents

-- a front stays well formed
abbrev pub UnchoosingKeepsWellFormed : Type 0
UnchoosingKeepsWellFormed = (m : Model) (h : ℕ) (F : Front) (i c : ℕ) → IsFront m h F
    → IsFront m h (unchosen_front F i c)
