-- What a file of a shelf in memory means.
use Rattle.std.specs.Prelude.{ℕ, List, string_bytes}
use Rattle.dp_io.specs.declared.mem_shelf.Held.{Held}

-- the name and what it was made to hold, both as bytes
abbrev pub pair_of : Held → List ℕ × List ℕ
pair_of held = (string_bytes held.name, held.bytes.items)
