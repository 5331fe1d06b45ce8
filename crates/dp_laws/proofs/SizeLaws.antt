-- The size records of either mode.
use Rattle.std.proofs.Common.{◌≡◌, ℕ, ◌-◌, ◌*◌, ◌^◌, ◌<◌, ◌≤◌, Bool, true, false, List, refl, arith}
use Rattle.dp_spec.specs.declared.scales.Scales.{Scales}
use Rattle.dp_laws.proofs.ExactWeightUpdates.{exact_can_update_weights}
use Rattle.dp_laws.proofs.ExactModeSizes.{exact_can_evaluate, exact_can_look_ahead, exact_can_refine}
use Rattle.dp_laws.proofs.ExactModeSizes.{exact_can_reward, exact_can_tabulate}
use Rattle.dp_laws.proofs.ActingHistories.{history_weights}
use Rattle.dp_laws.proofs.OutwardHistorySizes.{outward_can_evaluate, outward_can_refine}
use Rattle.dp_laws.proofs.OutwardLookSizes.{outward_can_look_ahead}
use Rattle.dp_laws.proofs.OutwardModeSizes.{outward_can_update_weights, outward_can_reward, outward_can_tabulate}
use Rattle.dp_spec.specs.Arithmetic.{arithmetic, exact, outward}
use Rattle.dp_spec.specs.Calls.{calls_in, exact_calls, outward_calls}
use Rattle.dp_spec.specs.Front.{Front}
use Rattle.dp_spec.specs.WellFormed.{IsFront}
use Rattle.dp_spec.specs.JointHistory.{IsJointHistory}
use Rattle.dp_spec.specs.Mode.{is_exact_mode}
use Rattle.dp_spec.specs.Model.{IsModel, Model, joint_observations}
use Rattle.dp_spec.specs.Quantities.{history_weight_in}
use Rattle.dp_spec.specs.Sizes.{AreWeights, CanUpdateWeights, CanReward}
use Rattle.dp_spec.specs.SizesOfEarnings.{CanEvaluate, IsActing}
use Rattle.dp_spec.specs.SizesOfFronts.{CanRefine}
use Rattle.dp_spec.specs.SizesOfLookAhead.{CanLookAhead}
use Rattle.dp_spec.specs.SizesOfTable.{CanTabulate}

-- ---- up to a horizon of 24
-- weights can be updated
pub mode_can_update_weights : (m : Model) → IsModel m → (h : ℕ) → 0 < h → h ≤ 24 → (e : Bool)
    → e ≡ is_exact_mode m h
    → CanUpdateWeights (arithmetic e m.scales) (calls_in e m.scales) m h
mode_can_update_weights m is h some le true mode = exact_can_update_weights m is h some mode
mode_can_update_weights m is h some le false mode = outward_can_update_weights m is h le

-- rewards are allowed
pub mode_can_reward : (m : Model) → IsModel m → (h : ℕ) → 0 < h → h ≤ 24 → (e : Bool) → e ≡ is_exact_mode m h
    → CanReward (arithmetic e m.scales) (calls_in e m.scales) m h
mode_can_reward m is h some le true mode = exact_can_reward m is h some mode
mode_can_reward m is h some le false mode = outward_can_reward m is h le

-- the table can be computed
pub mode_can_tabulate : (m : Model) → IsModel m → (h : ℕ) → 0 < h → h ≤ 24 → (e : Bool) → e ≡ is_exact_mode m h
    → CanTabulate (arithmetic e m.scales) (calls_in e m.scales) m h
mode_can_tabulate m is h some le true mode = exact_can_tabulate m is h some mode
mode_can_tabulate m is h some le false mode = outward_can_tabulate m is h le

-- look-ahead can be computed
pub mode_can_look_ahead : (m : Model) → IsModel m → (h : ℕ) → 0 < h → h ≤ 24 → (e : Bool)
    → e ≡ is_exact_mode m h
    → CanLookAhead (arithmetic e m.scales) (calls_in e m.scales) m h
mode_can_look_ahead m is h some le true mode = exact_can_look_ahead m is h some mode
mode_can_look_ahead m is h some le false mode = outward_can_look_ahead m is h le

-- weights of joint histories in exact mode
exact_weights : (m : Model) → IsModel m → (h : ℕ) → 0 < h → true ≡ is_exact_mode m h
    → (act : List ℕ → ℕ) (t : ℕ) (H : List ℕ) → t ≤ h → IsActing m t act
    → IsJointHistory (joint_observations m) t H
    → AreWeights true m t (history_weight_in (exact m.scales) m act H)
unfolding exact
exact_weights m is h some mode = history_weights (exact m.scales) (exact_calls m.scales) m h
    (exact_can_update_weights m is h some mode)

-- and in outward mode
outward_weights : (m : Model) → IsModel m → (h : ℕ) → h ≤ 24 → (act : List ℕ → ℕ) (t : ℕ) (H : List ℕ) → t ≤ h
    → IsActing m t act → IsJointHistory (joint_observations m) t H
    → AreWeights false m t (history_weight_in (outward m.scales) m act H)
unfolding outward
outward_weights m is h le = history_weights (outward m.scales) (outward_calls m.scales) m h
    (outward_can_update_weights m is h le)

-- the weights of a joint history are within the sum bound
pub mode_history_weights : (m : Model) → IsModel m → (h : ℕ) → 0 < h → h ≤ 24 → (e : Bool)
    → e ≡ is_exact_mode m h
    → (act : List ℕ → ℕ) (t : ℕ) (H : List ℕ) → t ≤ h → IsActing m t act
    → IsJointHistory (joint_observations m) t H
    → AreWeights e m t (history_weight_in (arithmetic e m.scales) m act H)
mode_history_weights m is h some le true mode = exact_weights m is h some mode
mode_history_weights m is h some le false mode = outward_weights m is h le

-- the arithmetic of a mode says which it is
pub arithmetic_is_exact : (e : Bool) (c : Scales) → (arithmetic e c).is_exact ≡ e
unfolding exact outward
arithmetic_is_exact true c = refl
arithmetic_is_exact false c = refl

-- ---- a joint policy, in outward mode within the limit of stage cells
-- worth can be added up
pub mode_can_evaluate : (m : Model) → IsModel m → (h : ℕ) → 0 < h → h ≤ 24 → (e : Bool) → e ≡ is_exact_mode m h
    → (e ≡ false → m.states * joint_observations m ^ (h - 1) ≤ 2 ^ 22) → CanEvaluate (arithmetic e m.scales) m h
mode_can_evaluate m is h some le true mode cells = exact_can_evaluate m is h some mode
mode_can_evaluate m is h some le false mode cells = outward_can_evaluate m is h le (cells refl)

-- ---- one front

-- a front can be refined
pub mode_can_refine : (m : Model) → IsModel m → (h : ℕ) → 0 < h → h ≤ 24 → (e : Bool) → e ≡ is_exact_mode m h
    → (F : Front) → IsFront m h F → F.stage < h → (e ≡ false
    → m.states * joint_observations m ^ F.stage ≤ 2 ^ 22)
    → CanRefine (arithmetic e m.scales) m h F
mode_can_refine m is h some le true mode F front lt cells = exact_can_refine m is h some mode F front lt
mode_can_refine m is h some le false mode F front lt cells = outward_can_refine m is h le F.stage (cells refl)
    F front lt (omega arith)
