-- Lossless merging, said of the joint policies that keep a front.
use Rattle.std.proofs.Common.{◌≡◌, ℕ, ◌+◌, ◌-◌, ◌<◌, ◌≤ℤ◌, List, subst, arith}
use Rattle.dp_laws.proofs.Keeping.{follows_of_keeps, keeps_of_follows}
use Rattle.dp_laws.proofs.MergedKept.{merged_agents_kept}
use Rattle.dp_laws.proofs.Merging.{merging_keeps_value}
use Rattle.dp_spec.specs.Front.{Front}
use Rattle.dp_spec.specs.Keeping.{KeepsFront}
use Rattle.dp_spec.specs.Merge.{AreEquivalent, merged_front}
use Rattle.dp_spec.specs.Model.{Model}
use Rattle.dp_spec.specs.PolicyTree.{IsPolicyOf, PolicyTree}
use Rattle.dp_spec.specs.Steps.{IsUnassigned}
use Rattle.dp_spec.specs.Value.{policy_value}
use Rattle.dp_spec.specs.WellFormed.{IsFront}

-- some joint policy keeps the merged front and is worth at least as much
pub merging_loses_nothing : (m : Model) (h : ℕ) (F : Front) (i a b : ℕ) → IsFront m h F → F.stage < h → a < b
    → IsUnassigned i a F.agents → IsUnassigned i b F.agents → AreEquivalent m F i a b →
    (qs : List PolicyTree) → IsPolicyOf m h qs → KeepsFront m F qs →
    (new : List PolicyTree) × IsPolicyOf m h new × KeepsFront m (merged_front F i a b) new
    × (policy_value m h qs ≤ℤ policy_value m h new)
merging_loses_nothing m h F i a b front lt ab p q alike qs policy keeps =
    let r = h - F.stage in
    let e : F.stage + r ≡ h = omega arith in
    let some : 0 < r = omega arith in
    let follows = follows_of_keeps m h r F qs e front policy keeps in
    let new = merging_keeps_value m F r qs follows.0 follows.1 i a b ab p q alike in (
      new.0,
      new.4 h e some policy,
      keeps_of_follows m r (merged_front F i a b) new.0 new.1 new.2,
      subst (λ (n : ℕ). policy_value m n qs ≤ℤ policy_value m n new.0) e new.3,
    )

-- a joint policy that keeps the merged front keeps the front
pub merged_keeps_front : (m : Model) (F : Front) (i a b : ℕ) → a < b → IsUnassigned i b F.agents
    → (qs : List PolicyTree) → KeepsFront m (merged_front F i a b) qs → KeepsFront m F qs
merged_keeps_front m F i a b lt free qs keeps = merged_agents_kept i a b F.agents lt free keeps
