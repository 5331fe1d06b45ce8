-- The rows of a shared policy with its horizon, and what is kept of them without a model.
use Rattle.std.specs.Prelude.{ℕ, suc, ◌+◌, ◌*◌, ◌^◌, ◌<◌, ◌≤◌, ◌≡◌, List, [], ◌∷◌, length, get_or}
use Rattle.dp_spec.specs.PolicyTree.{PolicyTree, subtree}
use Rattle.dp_spec.specs.SharedPolicy.{AgentRows, IsRow, SharedPolicy, first_count, next_count, no_row, row_at}
use Rattle.dp_spec.specs.SharedPolicy.{row_count}

-- rows over a horizon
pub record HorizonRows : Type 0 where
  pub horizon : ℕ
  pub rows : SharedPolicy

-- At most 6 agents and 24 stages, and no list longer than a number of its kind may be. An agent has one first row,
-- its rows before the last stage go on after as many observations as the first row, and next rows are rows of the
-- next stage.
pub record AreKept (h : ℕ) (p : SharedPolicy) : Type 0 where
  pub horizon : h ≤ 24
  pub agents : length p ≤ 6
  pub stages : (i : ℕ) → i < length p → length (get_or p i []) ≡ h
  pub counts : (i t : ℕ) → row_count (get_or p i []) t ≤ 2 ^ 22
  pub nexts : (i t r : ℕ) → length (row_at (get_or p i []) t r).next ≤ 256
  pub first : (i : ℕ) → i < length p → row_count (get_or p i []) 0 ≡ 1
  pub alike : (i t r : ℕ) → i < length p → suc t < h → r < row_count (get_or p i []) t
      → length (row_at (get_or p i []) t r).next ≡ length (row_at (get_or p i []) 0 0).next
  pub inside : (i t r o : ℕ) → i < length p → suc t < h → r < row_count (get_or p i []) t
      → o < length (row_at (get_or p i []) t r).next
      → get_or (row_at (get_or p i []) t r).next o 0 < row_count (get_or p i []) (suc t)

-- stage t of h has so many rows, and row c goes on to row c * n + o after observation o, as own histories do
pub record IsPlainStage (n h t count : ℕ) (stages : AgentRows) : Type 0 where
  pub rows : row_count stages t ≡ count
  pub nexts : suc t < h → (c o : ℕ) → c < count → o < n → get_or (row_at stages t c).next o 0 ≡ c * n + o

-- what remains of a tree after own observations, the earliest first
abbrev pub remaining_after : PolicyTree → List ℕ → PolicyTree
remaining_after q [] = q
remaining_after q (o ∷ os) = remaining_after (subtree q o) os

-- the first of these stages is not empty, and its rows fit the stage that follows
abbrev pub IsStage : ℕ → ℕ → AgentRows → Type 0
IsStage b n [] = Unit {0}
IsStage b n (rows ∷ stages) =
    (0 < length rows)
    × ((r : ℕ) → r < length rows → IsRow b (next_count n stages) (first_count stages) (get_or rows r no_row))
