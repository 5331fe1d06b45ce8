-- Weights that are a multiple of others. (Own.)
use Rattle.std.specs.Prelude.{ℕ, ◌<◌, ◌≡◌, pos, ◌*ℤ◌, ◌≤ℤ◌, List, length, unsigned_abs}
use Rattle.std.specs.Int.{◌∣◌}
use Rattle.dp_spec.specs.declared.span.Span.{Span}
use Rattle.dp_spec.specs.Calls.{IsPoint}
use Rattle.dp_pomdp.specs.Looking.{weights_of}

-- each weight is one number, from 0
abbrev pub AreNumbers : List Span → Type 0
AreNumbers ws = (s : ℕ) → s < length ws → (pos 0 ≤ℤ (weights_of ws s).high) × IsPoint (weights_of ws s)

-- the weights ws are k times the weights us
pub record AreTimes (k : ℕ) (us ws : List Span) : Type 0 where
  pub some : 0 < k
  pub one_each : length us ≡ length ws
  pub low : (s : ℕ) → s < length ws → (weights_of ws s).low ≡ pos k *ℤ (weights_of us s).low
  pub high : (s : ℕ) → s < length ws → (weights_of ws s).high ≡ pos k *ℤ (weights_of us s).high

-- k divides each upper end
abbrev pub IsDivisorOf : ℕ → List Span → Type 0
IsDivisorOf k ws = (s : ℕ) → s < length ws → k ∣ unsigned_abs (weights_of ws s).high
