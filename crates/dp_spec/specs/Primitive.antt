-- Primitive vectors: lists of numbers divided by their greatest common divisor.
use Rattle.std.specs.Prelude.{ℕ, ◌/◌, ◌≡◌, All, List, map}
use Rattle.std.specs.Int.{◌∣◌}

-- g is the greatest common divisor of the numbers: it divides each, and what divides each divides it
pub record IsGcdOf (xs : List ℕ) (g : ℕ) : Type 0 where
  pub divides : All (λ x. g ∣ x) xs
  pub greatest : (d : ℕ) → All (λ x. d ∣ x) xs → d ∣ g

-- us are the numbers xs, each divided by the greatest common divisor of all (where all are 0 they stay so)
abbrev pub IsPrimitiveOf : List ℕ → List ℕ → Type 0
IsPrimitiveOf xs us = (g : ℕ) × IsGcdOf xs g × (us ≡ map (λ x. x / g) xs)
