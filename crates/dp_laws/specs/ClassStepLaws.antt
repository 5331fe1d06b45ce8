-- Joint classes taken a step further: their weights and rewards from those of the front before, in any arithmetic in
-- which a class steps as its joint histories do; and where a class stands among the numbers of joint classes.
use Rattle.std.specs.Prelude.{◌≡◌, ◌≢◌, ℕ, suc, ◌+◌, ◌*◌, ◌^◌, ◌<◌, Bool, true, false, pos, List, length, get_or}
use Rattle.std.specs.Prelude.{take, drop}
use Rattle.dp_spec.specs.Arithmetic.{Arithmetic, arithmetic, exact, point, span_add}
use Rattle.dp_spec.specs.Calls.{size}
use Rattle.dp_spec.specs.ClassSteps.{StepsByClass, chosen_joint_action, pair_number}
use Rattle.dp_spec.specs.Front.{Front, class_counts, fixed_joint_action, joint_class}
use Rattle.dp_spec.specs.JointHistory.{IsJointHistory}
use Rattle.dp_spec.specs.JointNumbers.{product}
use Rattle.dp_spec.specs.Merge.{class_total, kept_class, merged_agents, merged_front, place_weight, placed_number}
use Rattle.dp_spec.specs.Merge.{without}
use Rattle.dp_spec.specs.Mode.{is_exact_mode}
use Rattle.dp_spec.specs.Model.{IsModel, Model, joint_observations}
use Rattle.dp_spec.specs.Quantities.{class_weight_in, earned_reward_in, span_sum, weighted_reward_in}
use Rattle.dp_spec.specs.Quantities.{weights_after_in}
use Rattle.dp_spec.specs.SizesOfFronts.{CanRefine}
use Rattle.dp_spec.specs.Steps.{IsUnassigned, advanced_front}
use Rattle.dp_base.specs.Sums.{nat_sum}
use Rattle.dp_spec.specs.WellFormed.{IsFront, KeepsHistoriesApart}

-- ---- when a class steps as its joint histories do

-- in the arithmetic of either mode, where in outward mode no two own histories share a class
abbrev pub ClassesStepAsHistories : Type 0
ClassesStepAsHistories =
    (m : Model) → IsModel m → (h : ℕ) (F : Front) → IsFront m h F → (e : Bool) →
    (e ≡ false → KeepsHistoriesApart m F) → StepsByClass (arithmetic e m.scales) m F

-- in any arithmetic, where no two own histories share a class
abbrev pub ApartClassesStepAsHistories : Type 0
ApartClassesStepAsHistories =
    (m : Model) (h : ℕ) (F : Front) → IsFront m h F → (A : Arithmetic) → KeepsHistoriesApart m F
    → StepsByClass A m F

-- each joint class of a well-formed front holds a joint history of its stage
abbrev pub JointClassesHoldHistories : Type 0
JointClassesHoldHistories =
    (m : Model) (h : ℕ) (F : Front) → IsFront m h F → (C : ℕ) → C < product (class_counts F.agents) →
    (H : List ℕ) × (IsJointHistory (joint_observations m) F.stage H) × (joint_class m F H ≡ C)

-- ---- advancing

-- the weights of a joint class of the advanced front are those after the joint class and the joint observation that
-- lead to it
abbrev pub AdvancedWeightsAreNextWeights : Type 0
AdvancedWeightsAreNextWeights =
    (A : Arithmetic) (m : Model) (h : ℕ) (F : Front) → IsFront m h F → StepsByClass A m F → (C o s : ℕ) →
    C < product (class_counts F.agents) → o < joint_observations m →
    class_weight_in A m (advanced_front m F) (pair_number (class_counts F.agents) m.observations C o) s
    ≡ weights_after_in A m (class_weight_in A m F C) (chosen_joint_action m F C) o s

-- what is earned by the next stage: what was earned before, and the rewards of the joint classes
abbrev pub AdvancedEarningsAreRewards : Type 0
AdvancedEarningsAreRewards =
    (A : Arithmetic) (m : Model) (h : ℕ) (F : Front) → IsFront m h F → StepsByClass A m F → (k r : ℕ) →
    F.stage + suc r ≡ k →
    earned_reward_in A m (fixed_joint_action m (advanced_front m F)) k (suc F.stage)
    ≡ span_add (earned_reward_in A m (fixed_joint_action m F) k F.stage)
    (span_sum (product (class_counts F.agents)) (λ C.
    weighted_reward_in A m r (class_weight_in A m F C) (chosen_joint_action m F C)))

-- ---- merging, in exact arithmetic

-- a joint class without the joined class of agent i has the weights that it had
abbrev pub KeptClassesKeepWeights : Type 0
KeptClassesKeepWeights =
    (m : Model) → IsModel m → (h : ℕ) (F : Front) → IsFront m h F → F.stage < h → (i a b : ℕ) → a < b →
    IsUnassigned i a F.agents → IsUnassigned i b F.agents → (c x s : ℕ) →
    c < get_or (class_counts (merged_agents i a b F.agents)) i 0 → a ≢ c
    → x < product (without i (class_counts F.agents)) →
    class_weight_in (exact m.scales) m (merged_front F i a b)
    (placed_number i (class_counts (merged_agents i a b F.agents)) c x) s
    ≡ class_weight_in (exact m.scales) m F (placed_number i (class_counts F.agents) (kept_class b c) x) s

-- a joint class with it has the weights of the two together
abbrev pub JoinedClassesHaveBothWeights : Type 0
JoinedClassesHaveBothWeights =
    (m : Model) → IsModel m → (h : ℕ) (F : Front) → IsFront m h F → F.stage < h → (i a b : ℕ) → a < b →
    IsUnassigned i a F.agents → IsUnassigned i b F.agents → (x s : ℕ)
    → x < product (without i (class_counts F.agents)) →
    class_weight_in (exact m.scales) m (merged_front F i a b)
    (placed_number i (class_counts (merged_agents i a b F.agents)) a x) s
    ≡ span_add (class_weight_in (exact m.scales) m F (placed_number i (class_counts F.agents) a x) s)
    (class_weight_in (exact m.scales) m F (placed_number i (class_counts F.agents) b x) s)

-- ---- places

-- class c of agent i, in row `high` of the agents before it and at place `low` of those behind it
abbrev pub PlacedNumbersAreByRow : Type 0
PlacedNumbersAreByRow =
    (i : ℕ) (ns : List ℕ) (c high low : ℕ) → i < length ns → high < product (take i ns)
    → low < product (drop (suc i) ns) →
    placed_number i ns c (high * product (drop (suc i) ns) + low)
    ≡ (high * get_or ns i 0 + c) * product (drop (suc i) ns) + low

-- in exact arithmetic a joint class has the weights of its places
abbrev pub PlaceWeightsAreClassWeights : Type 0
PlaceWeightsAreClassWeights =
    (m : Model) → IsModel m → (h : ℕ) (F : Front) → IsFront m h F → (i c x s : ℕ) →
    i < length (class_counts F.agents) → c < get_or (class_counts F.agents) i 0 →
    x < product (without i (class_counts F.agents)) →
    class_weight_in (exact m.scales) m F (placed_number i (class_counts F.agents) c x) s
    ≡ point (pos (place_weight m F i c x s))

-- the weights of a class at its places add up to its total
abbrev pub PlaceWeightsAddToTotal : Type 0
PlaceWeightsAddToTotal =
    (m : Model) (h : ℕ) (F : Front) → IsFront m h F → (i c : ℕ) → i < length (class_counts F.agents) →
    nat_sum (product (without i (class_counts F.agents))) (λ x. nat_sum m.states
    (λ s. place_weight m F i c x s))
    ≡ class_total m F i c

-- ---- sizes

-- where a front can be refined the weights of a joint class fit in 127 bits with a sign
abbrev pub ClassWeightsFit : Type 0
ClassWeightsFit =
    (A : Arithmetic) (m : Model) (h : ℕ) (F : Front) → CanRefine A m h F → (C s : ℕ) → s < m.states →
    size (class_weight_in A m F C s) < 2 ^ 127

-- in exact mode so does the total of a class
abbrev pub ClassTotalsFit : Type 0
ClassTotalsFit =
    (m : Model) → IsModel m → (h : ℕ) → 0 < h → true ≡ is_exact_mode m h → (F : Front) → IsFront m h F →
    F.stage < h → (i c : ℕ) → class_total m F i c < 2 ^ 127
