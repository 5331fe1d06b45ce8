-- What an arithmetic has to keep: how the numbers that it computes enclose the true ones.
use Rattle.std.specs.Prelude.{Bool, true, false, ℕ, ◌+◌, ◌*◌, ◌^◌, ◌≡◌, ℤ, pos, ◌+ℤ◌, ◌*ℤ◌, ◌≤ℤ◌}
use Rattle.std.specs.Int.{int_min, int_max}
use Rattle.dp_spec.specs.declared.span.Span.{Span}
use Rattle.dp_spec.specs.declared.scales.Scales.{Scales}
use Rattle.dp_spec.specs.Arithmetic.{Arithmetic, point, reward_factor, span_add}

-- what a computed number says of a true number over a scale
pub record Enclosure : Type 1 where
  -- the span encloses the weight over the scale
  pub Weighs : ℕ → ℕ → Span → Type 0
  -- the span encloses the reward over the scale
  pub Earns : ℕ → ℤ → Span → Type 0
  -- the number is at or above the true one over the scale
  pub IsUpperBound : ℕ → ℤ → ℤ → Type 0
  -- what values over a scale are counted in
  pub unit : ℕ → ℕ

-- over scales c each operation, and each way in which its results are put together, keeps the enclosure
pub record IsSound (c : Scales) (A : Arithmetic) (R : Enclosure) : Type 0 where
  pub start : (b : ℕ) → R.Weighs c.start b (A.start b)
  pub one : R.Weighs 1 1 A.one
  pub chance : (T w p z : ℕ) (s : Span) → R.Weighs T w s
      → R.Weighs (T * (c.trans * c.obs)) (w * (p * z)) (A.chance s p z)
  pub later : (T w : ℕ) (s : Span) → R.Weighs T w s → R.Weighs (T * c.discount) (w * c.gain) (A.later s)
  pub gain : (T w rest : ℕ) (r : ℤ) (s : Span) → R.Weighs T w s →
      R.Earns (T * reward_factor c rest * c.reward)
      (pos w *ℤ (r *ℤ pos (reward_factor c rest))) (A.gain s r rest)
  pub carry : (F p : ℕ) (x v : ℤ) → R.IsUpperBound F x v
      → R.IsUpperBound (F * (c.trans * c.obs * c.discount)) (pos (p * c.obs * c.gain) *ℤ x) (A.carry v p)
  pub tail : (T w F : ℕ) (x v : ℤ) (s : Span) → R.Weighs T w s → R.IsUpperBound F x v
      → R.IsUpperBound (T * F) (pos w *ℤ x) (A.tail s v)
  -- sums, the greater and the smaller of two
  pub no_weight : (T : ℕ) → R.Weighs T 0 (point (pos 0))
  pub more_weight : (T v w : ℕ) (a b : Span) → R.Weighs T v a → R.Weighs T w b → R.Weighs T (v + w) (span_add a b)
  pub no_gain : (F : ℕ) → R.Earns F (pos 0) (point (pos 0))
  pub more_gain : (F : ℕ) (x y : ℤ) (a b : Span) → R.Earns F x a → R.Earns F y b → R.Earns F (x +ℤ y) (span_add a b)
  pub upper_end : (F : ℕ) (x : ℤ) (a : Span) → R.Earns F x a → R.IsUpperBound F x a.high
  pub no_upper : (F : ℕ) → R.IsUpperBound F (pos 0) (pos 0)
  pub more_upper : (F : ℕ) (x y u v : ℤ) → R.IsUpperBound F x u → R.IsUpperBound F y v
      → R.IsUpperBound F (x +ℤ y) (u +ℤ v)
  pub greater : (F : ℕ) (x y u v : ℤ) → R.IsUpperBound F x u → R.IsUpperBound F y v
      → R.IsUpperBound F (int_max x y) (int_max u v)
  pub smaller : (F : ℕ) (x y u v : ℤ) → x ≤ℤ y → R.IsUpperBound F x u → R.IsUpperBound F y v
      → R.IsUpperBound F x (int_min u v)
  -- what it says of values counted in the unit
  pub reads : (F : ℕ) (x v : ℤ) → R.IsUpperBound F x v → (x *ℤ pos (R.unit F)) ≤ℤ (v *ℤ pos F)

-- every computed number is the true number itself
abbrev pub equality : Enclosure
equality = record {
  Weighs = λ T w s. s ≡ point (pos w);
  Earns = λ F x s. s ≡ point x;
  IsUpperBound = λ F x v. v ≡ x;
  unit = λ F. F;
}

-- x over the scale T lies within the span over the unit u
pub record Encloses (T u : ℕ) (x : ℤ) (s : Span) : Type 0 where
  pub from : (s.low *ℤ pos T) ≤ℤ (x *ℤ pos u)
  pub to : (x *ℤ pos u) ≤ℤ (s.high *ℤ pos T)

-- spans hold the true numbers and bounds are at or above them; weights are in 10^-12 and values in 10^-9
abbrev pub containment : Enclosure
containment = record {
  Weighs = λ T w s. Encloses T (10 ^ 12) (pos w) s;
  Earns = λ F x s. Encloses F (10 ^ 9) x s;
  IsUpperBound = λ F x v. (x *ℤ pos (10 ^ 9)) ≤ℤ (v *ℤ pos F);
  unit = λ F. 10 ^ 9;
}

-- the enclosure that the arithmetic of a mode keeps: equality in exact mode, and else containment
abbrev pub enclosure : Bool → Enclosure
enclosure true = equality
enclosure false = containment
