-- Room and wide nodes: the fronts of the nodes of a tree that fits have room, those in outward mode keep histories
-- apart, and within the limits of version 1 no node is wide.
use Rattle.std.specs.Prelude.{◌≡◌, ◌↔◌, ℕ, suc, ◌*◌, ◌^◌, ◌<◌, ◌≤◌, true, false, All}
use Rattle.dp_spec.specs.Model.{IsModel, Model, joint_observations}
use Rattle.dp_spec.specs.Mode.{IsWithinLimits}
use Rattle.dp_spec.specs.Arithmetic.{Arithmetic}
use Rattle.dp_spec.specs.BoundTree.{BoundTree}
use Rattle.dp_spec.specs.Certificate.{FitsRoot}
use Rattle.dp_spec.specs.Fitting.{front_bound}
use Rattle.dp_spec.specs.Front.{Front, class_counts}
use Rattle.dp_spec.specs.Merge.{merged_front}
use Rattle.dp_spec.specs.Qualities.{nodes_of}
use Rattle.dp_spec.specs.Steps.{IsUnassigned, advanced_front, chosen_front, front_after_choice, root_front}
use Rattle.dp_spec.specs.WellFormed.{IsFront, KeepsHistoriesApart}
use Rattle.dp_spec.specs.Wide.{has_room, is_wide, widens}
use Rattle.dp_spec.specs.JointNumbers.{product}

-- ---- the steps of a front

-- a front widens where a step is left after the next one and the front after a choice and the advance has no room
abbrev pub WideningIsWantOfRoom : Type 0
WideningIsWantOfRoom =
    (m : Model) (h : ℕ) (F : Front) (i c a : ℕ) →
    (widens m h F ≡ true) ↔ ((suc F.stage < h) × (has_room m h (advanced_front m (chosen_front F i c a))
    ≡ false))

-- the root front has room
abbrev pub RootFrontHasRoom : Type 0
RootFrontHasRoom = (m : Model) (h : ℕ) → IsModel m → has_room m h (root_front m) ≡ true

-- at a node that is not wide a choice, and the advance that may follow, keep room
abbrev pub ChoiceKeepsRoom : Type 0
ChoiceKeepsRoom =
    (m : Model) (h above : ℕ) (F : Front) (i c a : ℕ) → F.stage < h → IsUnassigned i c F.agents →
    is_wide m h above F ≡ false → has_room m h F ≡ true → has_room m h (front_after_choice m F i c a) ≡ true

-- merging keeps room
abbrev pub MergingKeepsRoom : Type 0
MergingKeepsRoom =
    (m : Model) (h : ℕ) (F : Front) (i a b : ℕ) → IsUnassigned i b F.agents → has_room m h F ≡ true →
    has_room m h (merged_front F i a b) ≡ true

-- the root front keeps histories apart, and so do a choice and the advance that may follow
abbrev pub RootFrontKeepsApart : Type 0
RootFrontKeepsApart = (m : Model) → KeepsHistoriesApart m (root_front m)

abbrev pub ChoiceKeepsApart : Type 0
ChoiceKeepsApart =
    (m : Model) (F : Front) (i c a : ℕ) → KeepsHistoriesApart m F
    → KeepsHistoriesApart m (front_after_choice m F i c a)

-- the single steps too
abbrev pub ChoosingKeepsApart : Type 0
ChoosingKeepsApart =
    (m : Model) (F : Front) (i c a : ℕ) → KeepsHistoriesApart m F → KeepsHistoriesApart m (chosen_front F i c a)

abbrev pub AdvancingKeepsApart : Type 0
AdvancingKeepsApart = (m : Model) (F : Front) → KeepsHistoriesApart m F
    → KeepsHistoriesApart m (advanced_front m F)

-- a front that keeps histories apart has as many joint classes as there are joint histories of its stage
abbrev pub ApartFrontsHaveAClassEach : Type 0
ApartFrontsHaveAClassEach =
    (m : Model) (h : ℕ) (F : Front) → IsFront m h F → KeepsHistoriesApart m F →
    product (class_counts F.agents) ≡ joint_observations m ^ F.stage

-- a front with room that keeps histories apart is within the limit of stage cells
abbrev pub ApartFrontsAreWithinStageCells : Type 0
ApartFrontsAreWithinStageCells =
    (m : Model) (h : ℕ) (F : Front) → IsFront m h F → F.stage < h → KeepsHistoriesApart m F
    → has_room m h F ≡ true →
    m.states * joint_observations m ^ F.stage ≤ 2 ^ 22

-- ---- the nodes of a tree that fits

-- each node's front is well formed and has room
abbrev pub NodesHaveRoom : Type 0
NodesHaveRoom =
    (A : Arithmetic) (m : Model) (h look : ℕ) (T : BoundTree) → IsModel m → FitsRoot A m h look T →
    All (λ n. IsFront m h n.front × (has_room m h n.front ≡ true))
    (nodes_of A m h look 0 T (root_front m) (front_bound A m h look (root_front m)))

-- where nothing may be merged each node's front keeps histories apart
abbrev pub NodesKeepApartWithoutMerges : Type 0
NodesKeepApartWithoutMerges =
    (A : Arithmetic) (m : Model) (h look : ℕ) (T : BoundTree) → IsModel m → FitsRoot A m h look T
    → A.is_exact ≡ false →
    All (λ n. KeepsHistoriesApart m n.front)
    (nodes_of A m h look 0 T (root_front m) (front_bound A m h look (root_front m)))

-- within the limits of version 1 no node is wide
abbrev pub NoNodeIsWideInVersionOne : Type 0
NoNodeIsWideInVersionOne =
    (A : Arithmetic) (m : Model) (h look : ℕ) (T : BoundTree) → IsModel m → IsWithinLimits m h
    → FitsRoot A m h look T →
    All (λ n. is_wide m h n.above n.front ≡ false)
    (nodes_of A m h look 0 T (root_front m) (front_bound A m h look (root_front m)))
