-- That no number of either mode leaves its type: in exact mode by the mode's condition, in outward mode by the
-- limits.
use Rattle.std.specs.Prelude.{ℕ, ◌*◌, ◌-◌, ◌^◌, ◌<◌, ◌≤◌, ◌≡◌, Bool, false, List}
use Rattle.dp_spec.specs.Arithmetic.{arithmetic}
use Rattle.dp_spec.specs.Calls.{calls_in}
use Rattle.dp_spec.specs.Front.{Front}
use Rattle.dp_spec.specs.JointHistory.{IsJointHistory}
use Rattle.dp_spec.specs.Mode.{is_exact_mode}
use Rattle.dp_spec.specs.Model.{IsModel, Model, joint_observations}
use Rattle.dp_spec.specs.Quantities.{history_weight_in}
use Rattle.dp_spec.specs.Sizes.{AreWeights, CanUpdateWeights, CanReward}
use Rattle.dp_spec.specs.SizesOfEarnings.{CanEvaluate, IsActing}
use Rattle.dp_spec.specs.SizesOfFronts.{CanRefine}
use Rattle.dp_spec.specs.SizesOfLookAhead.{CanLookAhead}
use Rattle.dp_spec.specs.SizesOfRows.{CanShare}
use Rattle.dp_spec.specs.SizesOfTable.{CanTabulate}
use Rattle.dp_spec.specs.WellFormed.{IsFront}

-- ---- from any weights within the sum bound, up to a horizon of 24

-- the weights of the next time are computed by allowed calls
abbrev pub ModeAllowsWeightUpdates : Type 0
ModeAllowsWeightUpdates =
    (m : Model) → IsModel m → (h : ℕ) → 0 < h → h ≤ 24 → (e : Bool) → e ≡ is_exact_mode m h →
    CanUpdateWeights (arithmetic e m.scales) (calls_in e m.scales) m h

-- the reward of a joint action is computed by allowed calls
abbrev pub ModeAllowsRewards : Type 0
ModeAllowsRewards =
    (m : Model) → IsModel m → (h : ℕ) → 0 < h → h ≤ 24 → (e : Bool) → e ≡ is_exact_mode m h →
    CanReward (arithmetic e m.scales) (calls_in e m.scales) m h

-- the table of the Markov decision process is computed by allowed calls
abbrev pub ModeAllowsTable : Type 0
ModeAllowsTable =
    (m : Model) → IsModel m → (h : ℕ) → 0 < h → h ≤ 24 → (e : Bool) → e ≡ is_exact_mode m h →
    CanTabulate (arithmetic e m.scales) (calls_in e m.scales) m h

-- look-ahead is computed by allowed calls
abbrev pub ModeAllowsLookAhead : Type 0
ModeAllowsLookAhead =
    (m : Model) → IsModel m → (h : ℕ) → 0 < h → h ≤ 24 → (e : Bool) → e ≡ is_exact_mode m h →
    CanLookAhead (arithmetic e m.scales) (calls_in e m.scales) m h

-- the weights of a joint history are within the sum bound of its time
abbrev pub HistoryWeightsAreWithinBound : Type 0
HistoryWeightsAreWithinBound =
    (m : Model) → IsModel m → (h : ℕ) → 0 < h → h ≤ 24 → (e : Bool) → e ≡ is_exact_mode m h →
    (act : List ℕ → ℕ) (t : ℕ) (H : List ℕ) → t ≤ h → IsActing m t act
    → IsJointHistory (joint_observations m) t H →
    AreWeights e m t (history_weight_in (arithmetic e m.scales) m act H)

-- the worth of a shared policy is computed from weights within the sum bound, and can be added up
abbrev pub ModeAllowsSharedWorth : Type 0
ModeAllowsSharedWorth =
    (m : Model) → IsModel m → (h : ℕ) → 0 < h → h ≤ 24 → (e : Bool) → e ≡ is_exact_mode m h →
    CanShare (arithmetic e m.scales) m h

-- ---- a joint policy, in outward mode within the limit of stage cells

-- the worth of a joint policy can be added up
abbrev pub ModeAllowsWorth : Type 0
ModeAllowsWorth =
    (m : Model) → IsModel m → (h : ℕ) → 0 < h → h ≤ 24 → (e : Bool) → e ≡ is_exact_mode m h →
    (e ≡ false → m.states * joint_observations m ^ (h - 1) ≤ 2 ^ 22) → CanEvaluate (arithmetic e m.scales) m h

-- ---- one front, in outward mode where its own stage is within the limit of stage cells (as where it has room and no
-- two histories share a class)

-- it can be bounded and advanced
abbrev pub ModeAllowsRefining : Type 0
ModeAllowsRefining =
    (m : Model) → IsModel m → (h : ℕ) → 0 < h → h ≤ 24 → (e : Bool) → e ≡ is_exact_mode m h →
    (F : Front) → IsFront m h F → F.stage < h → (e ≡ false → m.states * joint_observations m ^ F.stage
    ≤ 2 ^ 22) →
    CanRefine (arithmetic e m.scales) m h F
