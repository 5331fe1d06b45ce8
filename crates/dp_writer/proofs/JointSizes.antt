-- The first product of equal sizes that is more than 256.
use Rattle.std.proofs.Common.{◌≡◌, ℕ, suc, ◌*◌, ◌<◌, ◌≤◌, cond, ap}
use Rattle.std.specs.Prelude.{replicate}
use Rattle.std.proofs.lemmas.Bool.{le-ltb, lt-ltb}
use Rattle.dp_meaning.specs.Limits.{product_past}

-- a product that is within the limit is multiplied
pub past_step : (p n k : ℕ) → p ≤ 256
    → product_past 256 p (replicate (suc k) n) ≡ product_past 256 (p * n) (replicate k n)
past_step p n k le = ap (λ b. cond b p (product_past 256 (p * n) (replicate k n))) (le-ltb 256 p le)

-- one that is more is the first
pub past_over : (p n k : ℕ) → 256 < p → product_past 256 p (replicate (suc k) n) ≡ p
past_over p n k lt = ap (λ b. cond b p (product_past 256 (p * n) (replicate k n))) (lt-ltb 256 p lt)
