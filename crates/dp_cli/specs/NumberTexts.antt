-- Words with a number behind them.
use Rattle.std.specs.Prelude.{ℕ, ℤ, List, ◌++◌, decimal}
use Rattle.std.specs.Fmt.{signed_decimal}

abbrev pub field_text : List ℕ → ℕ → List ℕ
field_text word number = word ++ decimal number

abbrev pub signed_field_text : List ℕ → ℤ → List ℕ
signed_field_text word number = word ++ signed_decimal number
