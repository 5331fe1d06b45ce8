-- The two arithmetics for weights, rewards and bounds: the exact one, and the one that rounds outward.
use Rattle.std.specs.Prelude.{Bool, true, false, ℕ, ◌*◌, ◌^◌, ℤ, pos, ◌+ℤ◌, ◌*ℤ◌}
use Rattle.dp_spec.specs.declared.span.Span.{Span}
use Rattle.dp_spec.specs.declared.scales.Scales.{Scales}
use Rattle.dp_base.specs.Rounding.{mul_down, mul_up, by_sign}

-- the span that holds x alone
abbrev pub point : ℤ → Span
point x = record { low = x; high = x }

-- spans are added end by end
abbrev pub span_add : Span → Span → Span
span_add a b = record { low = a.low +ℤ b.low; high = a.high +ℤ b.high }

-- an arithmetic: how weights, rewards and values of the table are computed, each number as a span or from above
pub record Arithmetic : Type 0 where
  -- the weight of a start chance
  pub start : ℕ → Span
  -- the weight 1
  pub one : Span
  -- a weight times the chances of a next state and of a joint observation
  pub chance : Span → ℕ → ℕ → Span
  -- a weight times the discount
  pub later : Span → Span
  -- a weight times a reward, where so many steps are left after this one
  pub gain : Span → ℤ → ℕ → Span
  -- a value of the table times a chance and the discount, from above
  pub carry : ℤ → ℕ → ℤ
  -- a weight times a value of the table, from above
  pub tail : Span → ℤ → ℤ
  -- whether nothing is rounded
  pub is_exact : Bool

-- what a reward is multiplied by where so many steps are left after this one
unfoldable pub reward_factor : Scales → ℕ → ℕ
reward_factor c rest = c.discount * (c.trans * c.obs * c.discount) ^ rest

-- Nothing is divided, so every number is the true one.
unfoldable pub exact : Scales → Arithmetic
exact c = record {
  start = λ b. point (pos b);
  one = point (pos 1);
  chance = λ w p z. record { low = w.low *ℤ pos (p * z); high = w.high *ℤ pos (p * z) };
  later = λ w. record { low = w.low *ℤ pos c.gain; high = w.high *ℤ pos c.gain };
  gain = λ w r rest. record {
    low = w.low *ℤ (r *ℤ pos (reward_factor c rest));
    high =
        w.high *ℤ (r *ℤ pos (reward_factor c rest));
  };
  carry = λ v p. v *ℤ pos (p * c.obs * c.gain);
  tail = λ w v. w.low *ℤ v;
  is_exact = true;
}

-- Weights are counted in 10^-12 and values in 10^-9. Each product is divided at once and rounded outward.
unfoldable pub outward : Scales → Arithmetic
outward c = record {
  start = λ b. record {
    low = mul_down (pos b) (pos (10 ^ 12)) c.start;
    high =
        mul_up (pos b) (pos (10 ^ 12)) c.start;
  };
  one = point (pos (10 ^ 12));
  chance = λ w p z. record {
    low = mul_down (mul_down w.low (pos p) c.trans) (pos z) c.obs;
    high = mul_up (mul_up w.high (pos p) c.trans) (pos z) c.obs;
  };
  later = λ w. record { low = mul_down w.low (pos c.gain) c.discount; high = mul_up w.high (pos c.gain) c.discount };
  gain = λ w r rest. record {
    low = mul_down (by_sign r w.low w.high) r (1000 * c.reward);
    high = mul_up (by_sign r w.high w.low) r (1000 * c.reward);
  };
  carry = λ v p. mul_up (mul_up v (pos p) c.trans) (pos c.gain) c.discount;
  tail = λ w v. mul_up (by_sign v w.high w.low) v (10 ^ 12);
  is_exact = false;
}

-- the arithmetic of a mode: exact where the mode is exact, and else outward
abbrev pub arithmetic : Bool → Scales → Arithmetic
arithmetic true c = exact c
arithmetic false c = outward c
