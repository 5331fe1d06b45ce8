-- The steps of paths.
use Rattle.std.proofs.Common.{◌≡◌, ℕ, zero, suc, ◌<◌, List, [], ◌∷◌, length, get_or, set, Option, None, Some, arith}
use Rattle.dp_spec.specs.Front.{AgentFront, Front}
use Rattle.dp_spec.specs.Model.{Model}
use Rattle.dp_spec.specs.Qualities.{HasNoEquivalent}
use Rattle.dp_spec.specs.Steps.{IsUnassigned, chosen_front, with_choice}
use Rattle.dp_laws.proofs.ChosenFronts.{chosen_equivalence}

-- ---- a choice leaves no pair where there was none

-- a class without an action after a choice had none before
class_before : (os : List (Option ℕ)) (c a d : ℕ) → d < length (set os c (Some a))
    → get_or (set os c (Some a)) d None ≡ None → (d < length os) × (get_or os d None ≡ None)
class_before [] c a d lt none = absurd (omega arith)
class_before (o ∷ os) zero a zero lt none = cc
class_before (o ∷ os) zero a (suc d) lt none = (lt, none)
class_before (o ∷ os) (suc c) a zero lt none = (omega arith, none)
class_before (o ∷ os) (suc c) a (suc d) lt none =
    let before = class_before os c a d (omega arith) none in (omega (arith, before.0), before.1)

unassigned_before : (i c a : ℕ) (ds : List AgentFront) (j d : ℕ) → IsUnassigned j d (with_choice i c a ds)
    → IsUnassigned j d ds
unassigned_before i c a [] j d free = absurd free
unassigned_before zero c a (x ∷ ds) zero d free = class_before x.chosen c a d free.0 free.1
unassigned_before zero c a (x ∷ ds) (suc j) d free = free
unassigned_before (suc i) c a (x ∷ ds) zero d free = free
unassigned_before (suc i) c a (x ∷ ds) (suc j) d free = unassigned_before i c a ds j d free

pub no_pair_after : (m : Model) (F : Front) (i c a : ℕ) → HasNoEquivalent m F
    → HasNoEquivalent m (chosen_front F i c a)
no_pair_after m F i c a none j x y lt first second alike =
    none j x y lt (unassigned_before i c a F.agents j x first) (unassigned_before i c a F.agents j y second)
    ((chosen_equivalence m F i c a j x y).0 alike)
