-- Greatest common divisors of numbers, read from a divisor that may not be there.
use Rattle.std.proofs.Common.{◌≡◌, ℕ, List, Option, map, ℤ, pos, unsigned_abs, ap, subst, ◌∙◌}
use Rattle.dp_spec.specs.Primitive.{IsGcdOf}
use Rattle.dp_num.proofs.VectorLaws.{unsigned_pos}
use Rattle.dp_divisor.specs.CommonDivisors.{number_of}

-- the divisor of numbers that are written with signs is that of the numbers
pub gcd_of_numbers : (vs : List ℤ) (xs : List ℕ) (divisor is : Option ℕ) → vs ≡ map pos xs → divisor ≡ is
    → IsGcdOf (map unsigned_abs vs) (number_of divisor) → IsGcdOf xs (number_of is)
gcd_of_numbers vs xs divisor is are known gcd =
    subst (λ (l : List ℕ). IsGcdOf l (number_of is)) (ap (map unsigned_abs) are ∙ unsigned_pos xs)
    (subst (λ o. IsGcdOf (map unsigned_abs vs) (number_of o)) known gcd)
