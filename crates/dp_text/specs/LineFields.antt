-- The fields of a line, read along axes.
use Rattle.std.specs.Prelude.{◌≡◌, ◌≤◌, List, length, drop, Result, Ok, Err}
use Rattle.dp_meaning.specs.Items.{Piece}
use Rattle.dp_meaning.specs.Fields.{Axis, fields_of, all_parts}
use Rattle.dp_text.specs.Reading.{Reads}
use Rattle.dp_text.specs.declared.fault.TextFault.{TextFault}
use Rattle.dp_text.specs.declared.parts.LineFields.{LineFields}

-- the parts of the fields, and how many pieces stand before the rest
abbrev pub ReadsFields : List Axis → List Piece → Result LineFields TextFault → Type 0
ReadsFields axes line (Ok read) =
    (all_parts axes (fields_of line).fields ≡ Ok read.parts) × (length read.parts ≤ length axes)
    × (read.taken ≤ length line) × ((fields_of line).rest ≡ drop read.taken line)
ReadsFields axes line (Err fault) = Reads (all_parts axes (fields_of line).fields) (Err fault)
