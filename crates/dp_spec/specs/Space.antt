-- What a search goes over: fronts, the fronts after a step, and what is known of them.
use Rattle.std.specs.Prelude.{ℕ, Bool, List, ℤ}
use Rattle.dp_spec.specs.Front.{Front}
use Rattle.dp_spec.specs.declared.step.Step.{Step}

-- the space that is searched
pub record Space : Type 1 where
  -- the front of the root
  pub root : Front
  -- the fronts after a step, in order
  pub next : Front → Step → List Front
  -- the steps that may be made at a front
  pub May : Front → Step → Type 0
  -- the bound of a front, and whether no step is left
  pub bound : Front → ℤ
  pub is_full : Front → Bool
  -- whether a node with so many steps above it and this front is wide
  pub is_wide : ℕ → Front → Bool
  -- the low worth of the policy that a full front fixes
  pub worth : Front → ℤ
