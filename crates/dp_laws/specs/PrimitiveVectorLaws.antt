-- Primitive vectors: classes with weight are equivalent exactly where theirs are equal.
use Rattle.std.specs.Prelude.{◌≡◌, ◌↔◌, ℕ, ◌<◌, List, length}
use Rattle.dp_spec.specs.Front.{Front}
use Rattle.dp_spec.specs.Merge.{AreEquivalent, class_total}
use Rattle.dp_spec.specs.Model.{Model}
use Rattle.dp_spec.specs.Primitive.{IsPrimitiveOf}
use Rattle.dp_spec.specs.UnequalPlaces.{class_vector}
use Rattle.dp_spec.specs.WellFormed.{IsFront}

-- two classes with totals above 0 are equivalent exactly where their weights at all places have one primitive vector
abbrev pub PrimitiveVectorsTellEquivalence : Type 0
PrimitiveVectorsTellEquivalence =
    (m : Model) (h : ℕ) (F : Front) (i c c' : ℕ) (us us' : List ℕ) → IsFront m h F → i < length F.agents →
    IsPrimitiveOf (class_vector m F i c) us → IsPrimitiveOf (class_vector m F i c') us' →
    0 < class_total m F i c → 0 < class_total m F i c' →
    AreEquivalent m F i c c' ↔ (us ≡ us')

-- a list has one primitive vector
abbrev pub PrimitiveVectorIsUnique : Type 0
PrimitiveVectorIsUnique = (xs us vs : List ℕ) → IsPrimitiveOf xs us → IsPrimitiveOf xs vs → us ≡ vs
