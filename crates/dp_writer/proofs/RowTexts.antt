-- What is written of a row of chances.
use Rattle.std.proofs.Common.{◌≡◌, ℕ, List, [], ◌∷◌, true, false, map, refl}
use Rattle.std.specs.Prelude.{codes}
use Rattle.dp_writer.specs.WrittenModel.{are_equal, chance_word, row_words}

pub uniform_row : (scale : ℕ) (cells : List ℕ) → are_equal cells ≡ true
    → row_words scale cells ≡ codes "uniform" ∷ []
unfolding row_words
uniform_row scale cells equal = rw equal refl

pub row_of_decimals : (scale : ℕ) (cells : List ℕ) → are_equal cells ≡ false
    → row_words scale cells ≡ map (chance_word scale) cells
unfolding row_words
row_of_decimals scale cells equal = rw equal refl
