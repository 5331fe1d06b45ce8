-- Steps of reading the header.
use Rattle.std.specs.Prelude.{◌≡◌, ℕ, List, drop, Result, Ok, Err}
use Rattle.dp_meaning.specs.declared.header.Entries.{Entries}
use Rattle.dp_meaning.specs.declared.header.Header.{Header}
use Rattle.dp_meaning.specs.declared.why.Fault.{Fault}
use Rattle.dp_meaning.specs.Faults.{◌>>=◌}
use Rattle.dp_meaning.specs.Header.{header_with}
use Rattle.dp_meaning.specs.Items.{Item}
use Rattle.dp_text.specs.declared.fault.TextFault.{TextFault}
use Rattle.dp_text.specs.declared.fault.TextFault.TheVariants.{At, Memory}

-- it answers the header and how many of the items it takes, or the fault, unless memory ran out
abbrev pub ReadsHeader : List Item → Result (Header × List Item) Fault → Result (Header × ℕ) TextFault → Type 0
ReadsHeader items meant (Ok read) = meant ≡ Ok (read.0, drop read.1 items)
ReadsHeader items meant (Err (At fault)) = meant ≡ Err fault
ReadsHeader items meant (Err Memory) = Unit {0}

-- the header of all its entries, and the items behind it
abbrev pub header_and : ℕ → Entries → List Item → Result (Header × List Item) Fault
header_and at entries items = header_with at entries >>= λ header. Ok (header, items)
