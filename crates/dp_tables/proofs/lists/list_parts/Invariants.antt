use Rattle.std.proofs.Common.{◌≡◌, take}
use Rattle.dp_tables.specs.Writing.{list_parts}
use Rattle.dp_tables.proofs.lists.list_parts.Given as goal

abbrev pub invariant-loop-field : goal.invariant-loop-field
invariant-loop-field l = l.parts.items ≡ list_parts (take l.field-index l.fields)
