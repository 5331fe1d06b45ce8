-- Pairs of classes of one agent that could be merged, and the least one.
use Rattle.std.specs.Prelude.{ℕ, ◌<◌, ◌≤◌, ◌≡◌, ◌⊎◌}
use Rattle.dp_spec.specs.Model.{Model}
use Rattle.dp_spec.specs.Front.{Front}
use Rattle.dp_spec.specs.Steps.{IsUnassigned}
use Rattle.dp_spec.specs.Merge.{AreEquivalent}

-- classes c and c' of agent i could be merged: both are unassigned, they are equivalent, and the smaller number is
-- first
pub record IsPair (m : Model) (F : Front) (i c c' : ℕ) : Type 0 where
  pub order : c < c'
  pub first : IsUnassigned i c F.agents
  pub second : IsUnassigned i c' F.agents
  pub equivalent : AreEquivalent m F i c c'

-- the least of these pairs, by the first number and then by the second
pub record IsLeastPair (m : Model) (F : Front) (i c c' : ℕ) : Type 0 where
  pub pair : IsPair m F i c c'
  pub least : (d d' : ℕ) → IsPair m F i d d' → (c < d) ⊎ ((c ≡ d) × (c' ≤ d'))

-- no two unassigned classes of agent i are equivalent
abbrev pub HasNoPair : Model → Front → ℕ → Type 0
HasNoPair m F i = (c c' : ℕ) → c < c' → IsUnassigned i c F.agents → IsUnassigned i c' F.agents
    → ¬ AreEquivalent m F i c c'
