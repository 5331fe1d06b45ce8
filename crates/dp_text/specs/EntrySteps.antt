-- Steps of reading the values of header entries.
use Rattle.std.specs.Prelude.{ℕ, List, Result, Ok}
use Rattle.dp_base.specs.declared.decimal.Decimal.{Decimal}
use Rattle.dp_meaning.specs.declared.given_list.GivenList.{GivenList}
use Rattle.dp_meaning.specs.declared.header.Start.{Start}
use Rattle.dp_meaning.specs.declared.header.Start.TheVariants.{OneState, StartRow}
use Rattle.dp_meaning.specs.declared.why.Fault.{Fault}
use Rattle.dp_meaning.specs.Faults.{◌>>=◌}
use Rattle.dp_meaning.specs.Items.{Piece}
use Rattle.dp_meaning.specs.Numbers.{is_chance, number, numbers, ended}
use Rattle.dp_meaning.specs.NameLists.{find_in}

-- one chance, behind which nothing more stands
abbrev pub lone_chance : Piece → List Piece → Result Decimal Fault
lone_chance piece more = number is_chance piece >>= λ d. ended d more

-- one state, behind which nothing more stands
abbrev pub lone_state : GivenList → Piece → List Piece → Result Start Fault
lone_state states piece more = find_in states piece >>= λ s. ended (OneState s) more

-- a chance for each state, the first of which stands at this offset
abbrev pub state_row : ℕ → ℕ → ℕ → List Piece → Result Start Fault
state_row next states at pieces = numbers is_chance next states pieces >>= λ row. Ok (StartRow at row)
