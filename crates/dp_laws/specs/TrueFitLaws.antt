-- True fits and room: what the limits of a version come to.
use Rattle.std.specs.Prelude.{◌≡◌, ◌↔◌, ◌⊎◌, ℕ, ◌*◌, ◌^◌, ◌≤◌, true, pos}
use Rattle.dp_spec.specs.Front.{Front, class_counts}
use Rattle.dp_spec.specs.JointNumbers.{product}
use Rattle.dp_spec.specs.Mode.{IsTrueFit, IsWithinLimits, IsWithinVersion, is_exact_mode, unit_of}
use Rattle.dp_spec.specs.Model.{IsModel, Model, joint_actions}
use Rattle.dp_spec.specs.Wide.{has_room}
use Rattle.dp_spec.specs.WellFormed.{IsFront}

-- a horizon within the limits of a version has a true fit
abbrev pub HorizonsHaveATrueFit : Type 0
HorizonsHaveATrueFit =
    (m : Model) (h version : ℕ) → IsWithinVersion m h version
    → IsTrueFit m h (is_exact_mode m h) (pos (unit_of m h))

-- within the limits of version 1 every front has room
abbrev pub FrontsOfVersionOneHaveRoom : Type 0
FrontsOfVersionOneHaveRoom = (m : Model) (h : ℕ) (F : Front) → IsModel m → IsWithinLimits m h → IsFront m h F
    → has_room m h F ≡ true

-- a front has room where it is full, or the cells of its joint classes are within their limits
abbrev pub RoomIsWithinLimits : Type 0
RoomIsWithinLimits =
    (m : Model) (h : ℕ) (F : Front) →
    (has_room m h F ≡ true)
    ↔ ((F.stage ≡ h)
    ⊎ ((m.states * product (class_counts F.agents) ≤ 2 ^ 22)
    × (joint_actions m * product (class_counts F.agents) ≤ 2 ^ 24)))
