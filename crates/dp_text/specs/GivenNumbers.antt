-- A value that is given as Numbers.
use Rattle.std.specs.Prelude.{ℕ, List, Result, Ok}
use Rattle.dp_meaning.specs.declared.why.Fault.{Fault}
use Rattle.dp_meaning.specs.declared.statement.Table.{Table}
use Rattle.dp_meaning.specs.declared.statement.Value.{Value}
use Rattle.dp_meaning.specs.declared.statement.Value.TheVariants.{Numbers}
use Rattle.dp_meaning.specs.Faults.{◌>>=◌}
use Rattle.dp_meaning.specs.Items.{Piece}
use Rattle.dp_meaning.specs.Numbers.{numbers}
use Rattle.dp_meaning.specs.Statements.{is_number_of}

-- exactly so many Numbers of a table
abbrev pub given_numbers : Table → ℕ → ℕ → List Piece → Result Value Fault
given_numbers table next count pieces = numbers (is_number_of table) next count pieces >>= λ ns. Ok (Numbers ns)
