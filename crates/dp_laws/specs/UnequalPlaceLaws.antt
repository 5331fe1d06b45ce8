-- The places at which two classes are compared: the first at which they differ, and that there is none exactly where
-- the classes are equivalent.
use Rattle.std.specs.Prelude.{◌≡◌, ◌↔◌, ℕ, Some, None}
use Rattle.dp_spec.specs.Model.{Model}
use Rattle.dp_spec.specs.Front.{Front}
use Rattle.dp_spec.specs.Merge.{AreEquivalent}
use Rattle.dp_spec.specs.Pairs.{HasNoPair, IsLeastPair, IsPair}
use Rattle.dp_spec.specs.UnequalPlaces.{IsFirstUnequal, first_unequal}

-- the place that is found is the first at which the classes differ, and that place is found
abbrev pub FirstUnequalIsFound : Type 0
FirstUnequalIsFound =
    (m : Model) (F : Front) (i c c' p : ℕ) → (first_unequal m F i c c' ≡ Some p) ↔ IsFirstUnequal m F i c c' p

-- none is found exactly where the classes are equivalent
abbrev pub NoneIsUnequalWhereEquivalent : Type 0
NoneIsUnequalWhereEquivalent =
    (m : Model) (F : Front) (i c c' : ℕ) → (first_unequal m F i c c' ≡ None) ↔ AreEquivalent m F i c c'

-- two least pairs are the same
abbrev pub LeastPairIsUnique : Type 0
LeastPairIsUnique =
    (m : Model) (F : Front) (i c c' d d' : ℕ) → IsLeastPair m F i c c' → IsLeastPair m F i d d' → (c ≡ d)
    × (c' ≡ d')

-- where an agent has no pair, no two of its classes are one
abbrev pub NoPairIsNone : Type 0
NoPairIsNone = (m : Model) (F : Front) (i : ℕ) → HasNoPair m F i ↔ ((c c' : ℕ) → ¬ IsPair m F i c c')
