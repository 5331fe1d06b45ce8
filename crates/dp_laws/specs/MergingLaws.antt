-- Merging equivalent classes loses nothing (lossless clustering, JAIR 46 (2013)).
use Rattle.std.specs.Prelude.{◌≡◌, ◌≢◌, ◌⊎◌, ℕ, ◌<◌, ◌≤ℤ◌, ◌==◌, ◌||◌, List, filter, length, get_or, min, max}
use Rattle.std.specs.List.{range_with_len}
use Rattle.dp_spec.specs.Model.{Model}
use Rattle.dp_spec.specs.PolicyTree.{IsPolicyOf, PolicyTree}
use Rattle.dp_spec.specs.Value.{policy_value}
use Rattle.dp_spec.specs.Front.{AgentFront, Front}
use Rattle.dp_spec.specs.WellFormed.{IsFront}
use Rattle.dp_spec.specs.Keeping.{KeepsFront}
use Rattle.dp_spec.specs.Steps.{IsUnassigned}
use Rattle.dp_spec.specs.Merge.{AreEquivalent, class_members, class_total, kept_class, merged_agent, merged_front}
use Rattle.dp_spec.specs.Merge.{IsHighestMember, IsLowestMember}

-- For each joint policy that keeps a front, where a and b are two classes of agent i that are equivalent and have no
-- action, some joint policy that keeps the merged front is worth at least as much. (Nothing is asked of the totals of
-- the classes: they may be 0.)
abbrev pub MergingLosesNothing : Type 0
MergingLosesNothing =
    (m : Model) (h : ℕ) (F : Front) (i a b : ℕ) → IsFront m h F → F.stage < h → a < b
    → IsUnassigned i a F.agents →
    IsUnassigned i b F.agents → AreEquivalent m F i a b →
    (qs : List PolicyTree) → IsPolicyOf m h qs → KeepsFront m F qs →
    (new : List PolicyTree) × IsPolicyOf m h new × KeepsFront m (merged_front F i a b) new
    × (policy_value m h qs ≤ℤ policy_value m h new)

-- whoever keeps the merged front keeps the front
abbrev pub KeepingTheMergedKeepsTheFront : Type 0
KeepingTheMergedKeepsTheFront =
    (m : Model) (F : Front) (i a b : ℕ) → a < b → IsUnassigned i b F.agents → (qs : List PolicyTree) →
    KeepsFront m (merged_front F i a b) qs → KeepsFront m F qs

-- two classes one of which has total 0 are equivalent
abbrev pub EmptyClassesAreEquivalent : Type 0
EmptyClassesAreEquivalent =
    (m : Model) (F : Front) (i a b : ℕ) → (class_total m F i a ≡ 0) ⊎ (class_total m F i b ≡ 0) →
    AreEquivalent m F i a b

-- Merging joins the members of both classes, in the order of own histories ..
abbrev pub MergingJoinsMembers : Type 0
MergingJoinsMembers =
    (d : AgentFront) (a b : ℕ) → a < b →
    class_members (merged_agent a b d) a
    ≡ filter (λ x. get_or d.class_of x 0 == a || get_or d.class_of x 0 == b)
    (range_with_len 0 (length d.class_of))

-- .. and every other class keeps its own, under its old number those from b on
abbrev pub MergingKeepsOtherMembers : Type 0
MergingKeepsOtherMembers =
    (d : AgentFront) (a b c : ℕ) → a < b → a ≢ c →
    class_members (merged_agent a b d) c ≡ class_members d (kept_class b c)

-- so the lowest own history of the joined class is the lower of those of the two, and the highest the higher
abbrev pub LowestOfMerged : Type 0
LowestOfMerged =
    (d : AgentFront) (a b x y : ℕ) → a < b → IsLowestMember d a x → IsLowestMember d b y →
    IsLowestMember (merged_agent a b d) a (min x y)

abbrev pub HighestOfMerged : Type 0
HighestOfMerged =
    (d : AgentFront) (a b x y : ℕ) → a < b → IsHighestMember d a x → IsHighestMember d b y →
    IsHighestMember (merged_agent a b d) a (max x y)
