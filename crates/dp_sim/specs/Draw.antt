-- Drawing from a row of chances by a word of 64 bits: inversion of the row's running sums. (Own.)
use Rattle.std.specs.Prelude.{ℕ, suc, ◌*◌, ◌/◌, ◌^◌, ◌<◌, ◌≡◌, List, map, nat_lt}
use Rattle.std.specs.Fn.{Shared}
use Rattle.std.specs.List.{position_or_len, range_with_len}
use Rattle.dp_base.specs.Sums.{nat_sum}

-- the running sums of a row of n cells: of its first cell, of its first two, and so on
abbrev pub running_sums : ℕ → (ℕ → ℕ) → List ℕ
running_sums n row = map (λ i. nat_sum (suc i) row) (range_with_len 0 n)

-- the number below d that a word stands for
abbrev pub scaled : ℕ → ℕ → ℕ
scaled d word = word * d / 2 ^ 64

-- The index that a word draws from a row of n cells over the scale d: the first whose running sum is more than the
-- number that the word stands for, or n where there is none.
unfoldable pub drawn : ℕ → ℕ → (ℕ → ℕ) → ℕ → ℕ
drawn n d row word = position_or_len (nat_lt (scaled d word)) (running_sums n row)

-- A rule gives the cells of a row: of n cells, which sum to the scale d.
pub record GivesRow {F : Type 0} (g : Shared F (ℕ × Unit {0}) ℕ) (rule : F) (n d : ℕ) (row : ℕ → ℕ) : Type 0 where
  pub callable : (i : ℕ) → i < n → g.pre rule (i, tt)
  pub gives : (i cell : ℕ) → i < n → g.post rule (i, tt) cell → cell ≡ row i
  pub sums : nat_sum n row ≡ d
