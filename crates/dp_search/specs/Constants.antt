-- Constant policies, and the best of them. (Own.)
use Rattle.std.specs.Prelude.{ℕ, ◌<◌, Bool, ℤ, ◌≤ℤ◌, ◌<ℤ◌}
use Rattle.dp_spec.specs.Arithmetic.{arithmetic}
use Rattle.dp_spec.specs.ConstantPolicy.{constant_policy}
use Rattle.dp_spec.specs.Model.{Model}
use Rattle.dp_spec.specs.SharedWorth.{low_worth}

-- the low worth, in a version of certificates, of the constant policy of joint action a
abbrev pub constant_low_worth : Bool → Model → ℕ → ℕ → ℕ → ℤ
constant_low_worth e m version h a = low_worth (arithmetic e m.scales) m version h (constant_policy m h a)

-- a is the least of the numbers below n where w is greatest
pub record IsLeastGreatest (n : ℕ) (w : ℕ → ℤ) (a : ℕ) : Type 0 where
  pub below : a < n
  pub greatest : (b : ℕ) → b < n → w b ≤ℤ w a
  pub least : (b : ℕ) → b < a → w b <ℤ w a
