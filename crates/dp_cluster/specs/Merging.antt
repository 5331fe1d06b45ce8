-- When two classes are merged, and what is wrong where they are not.
use Rattle.std.specs.Prelude.{ℕ, ◌<◌, ◌≡◌, ◌⊎◌, true, false}
use Rattle.dp_spec.specs.Merge.{AreEquivalent}
use Rattle.dp_spec.specs.Model.{Model}
use Rattle.dp_spec.specs.Steps.{IsUnassigned}
use Rattle.dp_spec.specs.UnequalPlaces.{IsFirstUnequal}
use Rattle.dp_cluster.specs.declared.merge.MergeFault.{MergeFault}
use Rattle.dp_cluster.specs.declared.merge.MergeFault.TheVariants.{Rounded, Same, Assigned, Unequal, Memory}
use Rattle.dp_cluster.specs.KeptFronts.{KeptFront}

-- classes a and b of agent i may be compared: the mode is exact, a comes first, and neither has an action
pub record AreComparable (k : KeptFront) (i a b : ℕ) : Type 0 where
  pub exact : k.is_exact ≡ true
  pub order : a < b
  pub first : IsUnassigned i a k.front.agents
  pub second : IsUnassigned i b k.front.agents

-- they are merged: they are equivalent besides
pub record AreMerged (m : Model) (k : KeptFront) (i a b : ℕ) : Type 0 where
  pub comparable : AreComparable k i a b
  pub equivalent : AreEquivalent m k.front i a b

-- What a fault says of classes a and b of agent i. These cases exclude one another, and `Memory` comes only where
-- the two are merged else; so each other fault comes exactly where what it says holds.
abbrev pub IsMergeFault : Model → KeptFront → ℕ → ℕ → ℕ → MergeFault → Type 0
IsMergeFault m k i a b Rounded = k.is_exact ≡ false
IsMergeFault m k i a b Same = (k.is_exact ≡ true) × (a ≡ b)
IsMergeFault m k i a b Assigned =
    (k.is_exact ≡ true) × (a < b) × ((¬ IsUnassigned i a k.front.agents) ⊎ (¬ IsUnassigned i b k.front.agents))
IsMergeFault m k i a b (Unequal p) = AreComparable k i a b × IsFirstUnequal m k.front i a b p
IsMergeFault m k i a b Memory = AreMerged m k i a b
