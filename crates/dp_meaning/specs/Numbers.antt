-- Chances, the discount and rewards, as Numbers of the text.
use Rattle.std.specs.Prelude.{ℕ, zero, suc, ◌+◌, ◌^◌, Bool, false, ◌&&◌, nat_le, if◌then◌else◌, List, [], ◌∷◌, ℤ, pos}
use Rattle.std.specs.Prelude.{negsuc, unsigned_abs, Result, Ok, Err}
use Rattle.dp_base.specs.declared.decimal.Decimal.{Decimal}
use Rattle.dp_base.specs.declared.decimal.NumFault.{NumFault}
use Rattle.dp_base.specs.declared.decimal.NumFault.TheVariants.{Shape}
use Rattle.dp_base.specs.Decimals.{decimal_of}
use Rattle.dp_meaning.specs.declared.why.Fault.{Fault}
use Rattle.dp_meaning.specs.declared.why.Why.TheVariants.{Expected, Number}
use Rattle.dp_meaning.specs.Faults.{◌>>=◌, fault}
use Rattle.dp_meaning.specs.Items.{Piece}

-- 0, or a number above it that is at most n
abbrev pub is_at_most : ℤ → ℕ → Bool
is_at_most (pos units) n = nat_le units n
is_at_most (negsuc _) n = false

-- a chance or a discount: from 0 to 1, with at most 18 fraction digits
abbrev pub is_chance : Decimal → Bool
is_chance d = is_at_most d.units (10 ^ d.digits) && nat_le d.digits 18

-- a reward: of magnitude at most 10^8, with at most 9 fraction digits
abbrev pub is_reward : Decimal → Bool
is_reward d = nat_le (unsigned_abs d.units) (10 ^ (8 + d.digits)) && nat_le d.digits 9

-- a token of the decimal shape, whose number is in range
abbrev pub number_in : (Decimal → Bool) → ℕ → Result Decimal NumFault → Result Decimal Fault
number_in is_in_range at (Ok d) = if is_in_range d then Ok d else fault Number at
number_in is_in_range at (Err Shape) = fault Expected at
number_in is_in_range at (Err _) = fault Number at

-- the number of a piece, where it is in range
unfoldable pub number : (Decimal → Bool) → Piece → Result Decimal Fault
number is_in_range piece = number_in is_in_range piece.at (decimal_of piece.text)

-- nothing more stands here
abbrev pub ended : {A : Type 0} → A → List Piece → Result A Fault
ended x [] = Ok x
ended x (piece ∷ _) = fault Expected piece.at

-- exactly so many Numbers
unfoldable pub numbers : (Decimal → Bool) → ℕ → ℕ → List Piece → Result (List Decimal) Fault
numbers is_in_range next zero pieces = ended [] pieces
numbers is_in_range next (suc n) [] = fault Expected next
numbers is_in_range next (suc n) (piece ∷ pieces) = do
  first ← number is_in_range piece
  others ← numbers is_in_range next n pieces
  Ok (first ∷ others)
