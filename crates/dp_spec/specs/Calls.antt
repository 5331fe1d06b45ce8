-- Which calls of an arithmetic its code allows: those whose results stay within their type.
use Rattle.std.specs.Prelude.{Bool, true, false, ℕ, ◌^◌, ◌<◌, ◌≤◌, ◌≡◌, max, unsigned_abs, ℤ, pos, ◌≤ℤ◌}
use Rattle.dp_spec.specs.declared.span.Span.{Span}
use Rattle.dp_spec.specs.declared.scales.Scales.{Scales}
use Rattle.dp_spec.specs.Arithmetic.{exact, reward_factor}

-- for each operation of an arithmetic the arguments that it may be called with
pub record Calls : Type 1 where
  pub Start : ℕ → Type 0
  pub Chance : Span → ℕ → ℕ → Type 0
  pub Later : Span → Type 0
  pub Gain : Span → ℤ → ℕ → Type 0
  pub Carry : ℤ → ℕ → Type 0
  pub Tail : Span → ℤ → Type 0

-- what both arithmetics take as scales: from 1 to 2^62, and a discount of at most 1
pub record AreInRange (c : Scales) : Type 0 where
  pub start : (0 < c.start) × (c.start ≤ 2 ^ 62)
  pub trans : (0 < c.trans) × (c.trans ≤ 2 ^ 62)
  pub obs : (0 < c.obs) × (c.obs ≤ 2 ^ 62)
  pub reward : (0 < c.reward) × (c.reward ≤ 2 ^ 62)
  pub discount : (0 < c.discount) × (c.discount ≤ 2 ^ 62)
  pub gain : c.gain ≤ c.discount

-- ---- the exact arithmetic

-- the greater magnitude of a span's ends
abbrev pub size : Span → ℕ
size w = max (unsigned_abs w.low) (unsigned_abs w.high)

-- the span holds one number alone
abbrev pub IsPoint : Span → Type 0
IsPoint w = w.low ≡ w.high

-- A span holds one number, and the result fits in 127 bits with a sign. So does what a reward is multiplied by.
abbrev pub exact_calls : Scales → Calls
exact_calls c = record {
  Start = λ b. Unit {0};
  Chance = λ w p z. IsPoint w × (size ((exact c).chance w p z) < 2 ^ 127);
  Later = λ w. IsPoint w × (size ((exact c).later w) < 2 ^ 127);
  Gain = λ w r rest. IsPoint w × (size ((exact c).gain w r rest) < 2 ^ 127) × (reward_factor c rest < 2 ^ 127);
  Carry = λ v p. unsigned_abs ((exact c).carry v p) < 2 ^ 127;
  Tail = λ w v. IsPoint w × (unsigned_abs ((exact c).tail w v) < 2 ^ 127);
}

-- ---- the outward arithmetic

-- both ends are from 0 to 2^64, where 10^12 is the weight 1
pub record IsWeight (w : Span) : Type 0 where
  pub low_from : pos 0 ≤ℤ w.low
  pub low_to : w.low ≤ℤ pos (2 ^ 64)
  pub high_from : pos 0 ≤ℤ w.high
  pub high_to : w.high ≤ℤ pos (2 ^ 64)

-- Spans are weights, chances are at most their scale, rewards at most 10^17 and values of the table at most 2^62.
abbrev pub outward_calls : Scales → Calls
outward_calls c = record {
  Start = λ b. b ≤ c.start;
  Chance = λ w p z. IsWeight w × (p ≤ c.trans) × (z ≤ c.obs);
  Later = λ w. IsWeight w;
  Gain = λ w r rest. IsWeight w × (unsigned_abs r ≤ 10 ^ 17);
  Carry = λ v p. (unsigned_abs v ≤ 2 ^ 62) × (p ≤ c.trans);
  Tail = λ w v. IsWeight w × (unsigned_abs v ≤ 2 ^ 62);
}

-- ---- of a mode

-- the calls that the arithmetic of a mode allows
abbrev pub calls_in : Bool → Scales → Calls
calls_in true c = exact_calls c
calls_in false c = outward_calls c
