-- What an entry of a log means.
use Rattle.std.specs.Prelude.{string_bytes}
use Rattle.dp_io.specs.Shelf.{Entry}
use Rattle.dp_io.specs.declared.log.Logged.{Logged}

-- the entry, with the name as its bytes
abbrev pub entry_of : Logged → Entry
entry_of logged = record { name = string_bytes logged.name; ending = logged.ending }
