-- The least digits of a number, one digit at a time.
use Rattle.std.proofs.Common.{◌≡◌, ◌≢◌, ℕ, zero, suc, ◌-◌, ◌/◌, ◌%◌, ◌<◌, Bool, refl, ap, ◌∙◌, arith}
use Rattle.std.proofs.lemmas.Bool.{ne_eqb}
use Rattle.dp_base.specs.Decimals.{shortest, signed}

-- a 0 at the end goes
pub shortest_less : (negative : Bool) (n k : ℕ) → n % 10 ≡ 0 → 0 < k
    → shortest negative (n / 10) (k - 1) ≡ shortest negative n k
shortest_less negative n zero ends some = absurd (omega arith)
shortest_less negative n (suc k) ends some =
    let less : suc k - 1 ≡ k = omega arith in ap (shortest negative (n / 10)) less ∙ rw ends refl

-- another digit stays
pub shortest_stays : (negative : Bool) (n k : ℕ) → n % 10 ≢ 0
    → shortest negative n k ≡ record { units = signed negative n; digits = k }
shortest_stays negative n zero some = refl
shortest_stays negative n (suc k) some = rw (ne_eqb (n % 10) 0 some) refl
