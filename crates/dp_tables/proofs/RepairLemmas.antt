-- The first of the largest cells of a row, and what is put there.
use Rattle.std.proofs.Common.{◌≡◌, ◌≢◌, ℕ, ◌+◌, ◌<◌, ◌≤◌, true, List, [], ◌∷◌, length, get_or, arith}
use Rattle.std.specs.Prelude.{sum}
use Rattle.dp_meaning.specs.Rows.{greatest_cell, greatest_place, is_near}
use Rattle.dp_meaning.proofs.Lists.{first_greatest}
use Rattle.dp_meaning.proofs.Repairs.{near_parts, at_greatest, enough_in_greatest}

pub record IsPlace (scale : ℕ) (cells : List ℕ) : Type 0 where
  pub within : greatest_place cells < length cells
  pub greatest : get_or cells (greatest_place cells) 0 ≡ greatest_cell cells
  pub enough : sum cells ≤ greatest_cell cells + scale

-- a row whose sum is wrong, but near, has a largest cell, from which what is too much can be taken
pub place_of_near : (scale : ℕ) (cells : List ℕ) → length cells < 1000 → is_near scale (sum cells) ≡ true
    → sum cells ≢ scale
    → IsPlace scale cells
place_of_near scale [] short near wrong = absurd (wrong (let h = near_parts scale 0 near in omega arith))
place_of_near scale (x ∷ xs) short near wrong = record {
  within = first_greatest (x ∷ xs) (omega arith);
  greatest = at_greatest (x ∷ xs) (omega arith);
  enough = enough_in_greatest scale (x ∷ xs) short near;
}
