-- The start of a text.
use Rattle.std.specs.Prelude.{◌≡◌, true, All}
use Rattle.dp_meaning.specs.declared.header.Start.{Start}
use Rattle.dp_meaning.specs.declared.header.Start.TheVariants.{StartRow}
use Rattle.dp_meaning.specs.Numbers.{is_chance}

-- the numbers of a row of chances are chances
abbrev pub IsChanceStart : Start → Type 0
IsChanceStart (StartRow at ns) = All (λ d. is_chance d ≡ true) ns
IsChanceStart _ = Unit {0}
