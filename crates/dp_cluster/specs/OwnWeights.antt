-- The weights of one agent's classes, place by place, in a list of the weights of all joint classes.
use Rattle.std.specs.Prelude.{ℕ, ◌+◌, ◌*◌, ◌/◌, ◌%◌, ◌<◌, ◌≡◌, ◌^◌, ◌≤◌, ℤ, pos, unsigned_abs, List, length, get_or}
use Rattle.dp_base.specs.Sums.{nat_sum}
use Rattle.dp_spec.specs.declared.span.Span.{Span}
use Rattle.dp_spec.specs.Arithmetic.{point}

-- the low end at place j, and as a weight, in exact mode, where both ends are one
abbrev pub low_end : List Span → ℕ → ℤ
low_end ws j = (get_or ws j (point (pos 0))).low

abbrev pub low_at : List Span → ℕ → ℕ
low_at ws j = unsigned_abs (low_end ws j)

-- The weight of class c of an agent with n classes at place p. The list has a row for each joint class of the agents
-- before it; in a row each class has a run of w weights, one for each joint class of the agents behind it and state.
abbrev pub own_weight : List Span → ℕ → ℕ → ℕ → ℕ → ℕ
own_weight ws n w c p = low_at ws ((p / w * n + c) * w + p % w)

-- the same as it is kept
abbrev pub own_low : List Span → ℕ → ℕ → ℕ → ℕ → ℤ
own_low ws n w c p = low_end ws ((p / w * n + c) * w + p % w)

-- there are so many rows, each with a run of w weights for each of n classes
pub record AreOwnRuns (ws : List Span) (rows n w : ℕ) : Type 0 where
  pub all : rows * n * w ≡ length ws
  pub limit : length ws ≤ 2 ^ 22
  pub some : 0 < w

-- the weights of a class at the first so many places together
abbrev pub own_total : List Span → ℕ → ℕ → ℕ → ℕ → ℕ
own_total ws n w places c = nat_sum places (own_weight ws n w c)

-- the weights of two classes at a place are in the proportion of their totals
abbrev pub AreInProportion : List Span → ℕ → ℕ → ℕ → ℕ → ℕ → ℕ → Type 0
AreInProportion ws n w places a b p =
    own_weight ws n w a p * own_total ws n w places b ≡ own_weight ws n w b p * own_total ws n w places a

-- p is the first number below n of which P does not hold
pub record IsFirstWithout (P : ℕ → Type 0) (n p : ℕ) : Type 0 where
  pub below : p < n
  pub fails : ¬ P p
  pub before : (q : ℕ) → q < p → P q
