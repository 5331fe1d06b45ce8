-- That an arithmetic keeps zero: what has weight 0 or chance 0 adds nothing, so it may be left out of a sum.
use Rattle.std.specs.Prelude.{ℕ, ◌≡◌, ℤ, pos}
use Rattle.dp_spec.specs.declared.span.Span.{Span}
use Rattle.dp_spec.specs.Arithmetic.{Arithmetic, point}

-- the span that holds 0 alone
abbrev pub nothing : Span
nothing = point (pos 0)

pub record KeepsZero (A : Arithmetic) : Type 0 where
  -- the weight 0, and the chances 0 of a next state and of a joint observation
  pub no_weight : (p z : ℕ) → A.chance nothing p z ≡ nothing
  pub no_next : (w : Span) (z : ℕ) → A.chance w 0 z ≡ nothing
  pub no_seen : (w : Span) (p : ℕ) → A.chance w p 0 ≡ nothing
  -- what is done with a weight of 0
  pub later : A.later nothing ≡ nothing
  pub gain : (r : ℤ) (rest : ℕ) → A.gain nothing r rest ≡ nothing
  pub tail : (v : ℤ) → A.tail nothing v ≡ pos 0
  -- a value of the table times the chance 0
  pub carry : (v : ℤ) → A.carry v 0 ≡ pos 0
