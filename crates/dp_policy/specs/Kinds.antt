-- Kinds of rows, by numbers. (Own.)
use Rattle.std.specs.Prelude.{ℕ, ◌+◌, ◌*◌, ◌^◌, ◌<◌, ◌≤◌, ◌≡◌, ◌↔◌, List, length, get_or}
use Rattle.dp_spec.specs.SharedPolicy.{AgentRows, row_count}
use Rattle.dp_laws.proofs.SharedTrees.{rows_tree}

-- two numbers below 2^32 as one
abbrev pub number_of_pair : ℕ → ℕ → ℕ
number_of_pair x y = x * 2 ^ 32 + y

-- a number for each place of two lists, the same at two places exactly where both lists are, and none above its place
pub record ArePairNumbers (xs ys zs : List ℕ) : Type 0 where
  pub counted : length zs ≡ length xs
  pub same : (i j : ℕ) → i < length xs → j < length xs → (get_or zs i 0 ≡ get_or zs j 0)
      ↔ ((get_or xs i 0 ≡ get_or xs j 0) × (get_or ys i 0 ≡ get_or ys j 0))
  pub most : (i : ℕ) → i < length xs → get_or zs i 0 ≤ i

-- A number for each row of stage t, the same for two rows exactly where their trees are equal, and none above its
-- row.
pub record AreKinds (stages : AgentRows) (t : ℕ) (kinds : List ℕ) : Type 0 where
  pub counted : length kinds ≡ row_count stages t
  pub same : (r s : ℕ) → r < row_count stages t → s < row_count stages t → (get_or kinds r 0 ≡ get_or kinds s 0)
      ↔ (rows_tree stages t r ≡ rows_tree stages t s)
  pub most : (r : ℕ) → r < row_count stages t → get_or kinds r 0 ≤ r
