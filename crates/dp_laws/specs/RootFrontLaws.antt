-- The root front.
use Rattle.std.specs.Prelude.{ℕ, List}
use Rattle.dp_spec.specs.Model.{IsModel, Model}
use Rattle.dp_spec.specs.PolicyTree.{IsPolicyOf, PolicyTree}
use Rattle.dp_spec.specs.Keeping.{KeepsFront}
use Rattle.dp_spec.specs.Steps.{root_front}
use Rattle.dp_spec.specs.WellFormed.{IsFront}

-- the root front of a model is well formed, for every horizon
abbrev pub RootFrontIsWellFormed : Type 0
RootFrontIsWellFormed = (m : Model) (h : ℕ) → IsModel m → IsFront m h (root_front m)

-- every joint policy keeps the root front
abbrev pub EveryPolicyKeepsTheRootFront : Type 0
EveryPolicyKeepsTheRootFront =
    (m : Model) (h : ℕ) (qs : List PolicyTree) → IsPolicyOf m h qs → KeepsFront m (root_front m) qs
