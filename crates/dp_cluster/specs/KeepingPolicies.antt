-- What becomes of the joint policies that keep a front when the front takes a step.
use Rattle.std.specs.Prelude.{ℕ, ◌<◌, ◌≤ℤ◌, List, get_or}
use Rattle.dp_spec.specs.Front.{Front}
use Rattle.dp_spec.specs.Keeping.{KeepsFront}
use Rattle.dp_spec.specs.Model.{Model}
use Rattle.dp_spec.specs.PolicyTree.{IsPolicyOf, PolicyTree}
use Rattle.dp_spec.specs.Steps.{chosen_front}
use Rattle.dp_spec.specs.Value.{policy_value}

-- every joint policy of h steps that keeps the front keeps one of its fronts after a choice for class c of agent i
abbrev pub KeepsSomeChoice : Model → ℕ → Front → ℕ → ℕ → Type 0
KeepsSomeChoice m h F i c =
    (qs : List PolicyTree) → IsPolicyOf m h qs → KeepsFront m F qs →
    (a : ℕ) × (a < get_or m.actions i 0) × KeepsFront m (chosen_front F i c a) qs

-- every joint policy that keeps the first front keeps the second
abbrev pub KeepsToo : Model → Front → Front → Type 0
KeepsToo m F G = (qs : List PolicyTree) → KeepsFront m F qs → KeepsFront m G qs

-- for every joint policy of h steps that keeps the first front some that keeps the second is worth at least as much
abbrev pub LosesNothing : Model → ℕ → Front → Front → Type 0
LosesNothing m h F G =
    (qs : List PolicyTree) → IsPolicyOf m h qs → KeepsFront m F qs →
    (new : List PolicyTree) × IsPolicyOf m h new × KeepsFront m G new
    × (policy_value m h qs ≤ℤ policy_value m h new)
